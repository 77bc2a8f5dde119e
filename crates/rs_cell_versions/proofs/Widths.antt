-- All cells of a tree are of its width.
use Rattle.std.proofs.Common.{◌≡◌, ◌≤◌, ◌+◌, ◌*◌, ℕ, zero, suc, List, [], ◌∷◌, ◌++◌, length, drop, sym, subst, arith}
use Rattle.std.proofs.lemmas.List.{length-drop, length-take-le}
use Rattle.std.specs.List.{AllByRecursion, flat_map}
use Rattle.rs_pages.specs.PageMap.{PageMap}
use Rattle.rs_records.specs.Records.{records}
use Rattle.rs_records.proofs.RecordLists.{records_more, records_none}
use Rattle.rs_tree.specs.Content.{content}
use Rattle.rs_tree.specs.Form.{Form}
use Rattle.rs_tree.specs.Shape.{Shape, Lies, cells_of}
use Rattle.rs_tree.specs.Tree.{Stands}
use Rattle.rs_cell_versions.specs.Versioned.{HoldsCells, Standing}

abbrev AreWide : ℕ → List (List ℕ) → Type 0
AreWide width = AllByRecursion (λ cell. length cell ≡ width)

records_wide : (n width : ℕ) (bytes : List ℕ) → n * width ≤ length bytes → AreWide width (records n width bytes)
records_wide zero width bytes fits = subst (AreWide width) (sym (records_none width bytes)) tt
records_wide (suc n) width bytes fits =
    let both : width + n * width ≤ length bytes = omega (arith, fits) in
    subst (AreWide width) (sym (records_more n width bytes))
    (length-take-le width bytes (omega (arith, both)), records_wide n width (drop width bytes) (omega (arith, both, length-drop width bytes)))

wide_both : (width : ℕ) (xs ys : List (List ℕ)) → AreWide width xs → AreWide width ys → AreWide width (xs ++ ys)
wide_both width [] ys first last = last
wide_both width (x ∷ xs) ys first last = (first.0, wide_both width xs ys first.1 last)

module _ (form : Form) (pages : PageMap) where
  parts_wide : (height : ℕ) (parts : List (Shape height)) → AllByRecursion (Lies form pages height) parts
      → ((part : Shape height) → Lies form pages height part → AreWide form.width (cells_of height part)) → AreWide form.width (flat_map (cells_of height) parts)
  parts_wide height [] all wide = tt
  parts_wide height (x ∷ xs) all wide = wide_both form.width (cells_of height x) (flat_map (cells_of height) xs) (wide x all.0) (parts_wide height xs all.1 wide)

  cells_wide : (height : ℕ) (shape : Shape height) → Lies form pages height shape → AreWide form.width (cells_of height shape)
  cells_wide zero shape lies = subst (AreWide form.width) lies.leaf.holds (records_wide (length shape.cells) form.width (content lies.page) lies.leaf.has.fit)
  cells_wide (suc height) shape lies = parts_wide height shape.parts lies.1 (cells_wide height)

  stands_wide : (height root : ℕ) (cells : List (List ℕ)) (used : ℕ → ℕ) → Stands form pages height root cells used → AreWide form.width cells
  stands_wide zero root cells used stands = subst (AreWide form.width) (sym stands.no_cells) tt
  stands_wide (suc height) root cells used stands = subst (AreWide form.width) stands.lists (cells_wide height stands.shape stands.lies)

pub held_wide : (form : Form) (pages : PageMap) (standing : Standing) (cells : List (List ℕ)) (used : ℕ → ℕ) → HoldsCells form pages standing cells used
    → AllByRecursion (λ cell. length cell ≡ form.width) cells
held_wide form pages standing cells used holds = stands_wide form pages holds.tree.height standing.root cells used holds.tree.stands
