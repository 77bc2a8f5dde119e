-- A cell that is taken out of cells in order, and out of the leaf that has them.
use Rattle.std.proofs.Common.{◌≡◌, ◌⊎◌, ◌≤◌, ◌+◌, ℕ, zero, suc, true, Some, List, [], ◌∷◌, ◌++◌, IsTrue, length, map, take, drop, slice_get, refl, sym, ap, ◌∙◌, subst, inl, inr, arith}
use Rattle.std.proofs.lemmas.Bool.{false≢true}
use Rattle.std.proofs.lemmas.List.{append_assoc, take-append-drop, map-id}
use Rattle.std.specs.List.{AllByRecursion, Contains}
use Rattle.rs_page.specs.Header.{IsHeader}
use Rattle.rs_page.specs.declared.header.PageHeader.{PageHeader}
use Rattle.rs_page.specs.declared.header.PageKind.TheVariants as kind
use Rattle.rs_page.proofs.Headers.{header_is_one}
use Rattle.rs_pages.specs.PageMap.{PageMap}
use Rattle.rs_pages.proofs.FreeLists.{page_one}
use Rattle.rs_pages.proofs.Stores.{SamePages-refl, used_there}
use Rattle.rs_pages.specs.Store.{Store}
use Rattle.rs_pages.specs.Uses.{ReleasesPage}
use Rattle.rs_records.specs.Order.{is_below, Ascends}
use Rattle.rs_records.specs.Records.{records, keys, IsPlace}
use Rattle.rs_records.proofs.Orders.{is_below-self, is_below-trans, is_below-cases}
use Rattle.rs_records.proofs.RecordLists.{length-records, records_none}
use Rattle.rs_page_owners.specs.Counts.{one_at, ◌&◌, no_pages}
use Rattle.rs_page_owners.specs.Owners.{Shares, Moves}
use Rattle.rs_page_owners.proofs.Moving.{releases-moves, moves_same}
use Rattle.rs_tree.specs.Cells.{cells_below, cells_above, without_cell}
use Rattle.rs_tree.specs.Content.{content, tree_header}
use Rattle.rs_tree.specs.Form.{Form}
use Rattle.rs_tree.specs.Shape.{Shape, cells_of, uses, child_of}
use Rattle.rs_tree.proofs.Below.{NoneBelow, ascends_across, ascends_last}
use Rattle.rs_tree.proofs.Parts.{place_splits}
use Rattle.rs_tree.specs.Layouts.{form_with}
use Rattle.rs_tree.specs.Node.{IsNode}
use Rattle.rs_tree.specs.declared.layout.Layout.{Layout}
use Rattle.rs_tree.specs.declared.node.Node.TheVariants.{Leaf}
use Rattle.rs_tree.specs.Walking.{IsPart}
use Rattle.rs_tree.proofs.Entering.{leaf_cells}
use Rattle.rs_tree_edit.specs.Editing.{Splices}
use Rattle.rs_tree_edit.specs.Parts.{TakesPlace, uses_all}
use Rattle.rs_tree_edit.proofs.Between.{LiesBetween, AllAbove, below_between, above_between, among_between}
use Rattle.rs_tree_edit.proofs.Pieces.{list_at}
use Rattle.rs_tree_edit.proofs.Replacing.{leaf_written}
use Rattle.rs_tree_remove.specs.Leaving.{IsRemoved, RemovesPart}
use Rattle.rs_tree_remove.specs.declared.answer.Removed.TheVariants.{Missing, Kept, Gone}

-- the cell goes out of the part that it belongs in
pub without_between : (cell : List ℕ) (before cs after : List (List ℕ)) → LiesBetween cell before after → without_cell cell (before ++ (cs ++ after)) ≡ before ++ (without_cell cell cs ++ after)
without_between cell before cs after lies =
    ap (λ xs. xs ++ cells_above cell (before ++ (cs ++ after))) (below_between cell before cs after lies)
    ∙ ap (λ xs. (before ++ cells_below cell cs) ++ xs) (above_between cell before cs after lies)
    ∙ append_assoc before (cells_below cell cs) (cells_above cell cs ++ after)
    ∙ ap (λ xs. before ++ xs) (sym (append_assoc (cells_below cell cs) (cells_above cell cs) after))

pub without_one : (cell : List ℕ) → without_cell cell (cell ∷ []) ≡ []
without_one cell = rw is_below-self refl

-- what follows a cell is above it
all_above : (cell : List ℕ) (cs : List (List ℕ)) → AllByRecursion (λ other. IsTrue (is_below cell other)) cs → AllAbove cell cs
all_above cell [] all = tt
all_above cell (c ∷ cs) all = (all.0, all_above cell cs all.1)

all_above_from : (cell first : List ℕ) (cs : List (List ℕ)) → is_below cell first ≡ true → AllByRecursion (λ other. IsTrue (is_below first other)) cs → AllAbove cell cs
all_above_from cell first [] h all = tt
all_above_from cell first (c ∷ cs) h all = (is_below-trans cell first c h all.0, all_above_from cell first cs h all.1)

-- a cell at its place lies between the others
at_place : (rs : List (List ℕ)) (cell : List ℕ) (at : ℕ) → Ascends rs → slice_get rs at ≡ Some cell → LiesBetween cell (take at rs) (drop (suc at) rs)
at_place rs cell at up has =
    let cut = subst Ascends (list_at rs at cell has) up in
    record { below = ascends_across (take at rs) cell (drop (suc at) rs) cut; above = all_above cell (drop (suc at) rs) (ascends_last (take at rs) (cell ∷ drop (suc at) rs) cut).0 }

pub without_at : (rs : List (List ℕ)) (cell : List ℕ) (at : ℕ) → Ascends rs → slice_get rs at ≡ Some cell → without_cell cell rs ≡ take at rs ++ drop (suc at) rs
without_at rs cell at up has =
    ap (without_cell cell) (list_at rs at cell has) ∙ without_between cell (take at rs) (cell ∷ []) (drop (suc at) rs) (at_place rs cell at up has)
    ∙ ap (λ xs. take at rs ++ (xs ++ drop (suc at) rs)) (without_one cell)

pub found_among : (rs : List (List ℕ)) (cell : List ℕ) (at : ℕ) → slice_get rs at ≡ Some cell → Contains rs cell
found_among [] cell at has = absurd (cc)
found_among (r ∷ rs) cell zero has = let same : r ≡ cell = cc in (0, omega arith, same)
found_among (r ∷ rs) cell (suc at) has = let rest = found_among rs cell at has in (suc rest.0, omega (arith, rest.1), rest.2)

above_place : (rs : List (List ℕ)) (cell : List ℕ) → Ascends rs → NoneBelow cell rs → (slice_get rs 0 ≡ Some cell → ⊥) → AllAbove cell rs
above_place [] cell up none isnt = tt
above_place (r ∷ rs) cell up none isnt = elim (is_below-cases r cell) [
  | inl less ↦ absurd (false≢true (sym none.0 ∙ less))
  | inr (inl same) ↦ absurd (isnt (ap (λ (y : List ℕ). Some y) same))
  | inr (inr more) ↦ (more, all_above_from cell r rs more up.0)
]

ascends_drop : (rs : List (List ℕ)) (n : ℕ) → Ascends rs → Ascends (drop n rs)
ascends_drop rs zero up = up
ascends_drop [] (suc n) up = tt
ascends_drop (r ∷ rs) (suc n) up = ascends_drop rs n up.1

drop_first : (rs : List (List ℕ)) (n : ℕ) → slice_get (drop n rs) 0 ≡ slice_get rs n
drop_first rs zero = refl
drop_first [] (suc n) = refl
drop_first (r ∷ rs) (suc n) = drop_first rs n

-- what isn't at its place isn't there
pub absent : (rs : List (List ℕ)) (cell : List ℕ) (at : ℕ) → Ascends rs → IsPlace rs cell at → (slice_get rs at ≡ Some cell → ⊥) → Contains rs cell → ⊥
absent rs cell at up place isnt has =
    let splits = place_splits rs cell at up place in
    let lies : LiesBetween cell (take at rs) (drop at rs) = record { below = splits.0; above = above_place (drop at rs) cell (ascends_drop rs at up) splits.1 (λ e. isnt (sym (drop_first rs at) ∙ e)) } in
    let none = among_between cell (take at rs) [] (drop at rs) lies (subst (λ cs. Contains cs cell) (sym (take-append-drop at rs)) has) in
    omega (arith, none.1)

module _ (says : List ℕ → List (List ℕ) → Type 0) (layout : Layout) (old : PageMap) (number : ℕ) (page cell : List ℕ) (count at : ℕ) (lent : old.page number ≡ Some page) (node : IsNode page number layout (Leaf count)) where
  abbrev form : Form
  form = form_with says layout

  abbrev rs : List (List ℕ)
  rs = records count layout.width (content page)

  pub leaf_missing : IsPlace (keys 0 rs) cell at → (slice_get (keys 0 rs) at ≡ Some cell → ⊥) → RemovesPart form old old number cell Missing
  leaf_missing place isnt = record {
    each = λ height shape others part up shares.
        let same = leaf_cells says layout old number page count height shape part lent node in
        let whole = map-id rs in
        record {
          none = λ has. absent rs cell at (subst Ascends same up) (subst (λ ks. IsPlace ks cell at) whole place) (λ e. isnt (ap (λ ks. slice_get ks at) whole ∙ e)) (subst (λ cs. Contains cs cell) same has);
          same = SamePages-refl old;
        };
  }

  pub leaf_no_inner : (height : ℕ) (shape : Shape (suc height)) → IsPart form old number (suc height) shape → ⊥
  leaf_no_inner height shape part =
      let same = page_one old number part.lies.0.page page (subst (λ n. old.page n ≡ Some part.lies.0.page) part.top part.lies.0.there) lent in
      let header = header_is_one page (tree_header kind.Leaf count number) (tree_header kind.Inner (length (map (child_of height) shape.parts)) shape.page) node.0.header
      (subst (λ p. IsHeader p (tree_header kind.Inner (length (map (child_of height) shape.parts)) shape.page)) same part.lies.0.inner.has.header) in
      let wrong : kind.Leaf ≡ kind.Inner = ap (λ (h : PageHeader). h.kind) header in cc

  module _ (has : slice_get (keys 0 rs) at ≡ Some cell) where
    there : slice_get rs at ≡ Some cell
    there = ap (λ ks. slice_get ks at) (sym (map-id rs)) ∙ has

    -- the last cell goes with the page
    pub leaf_gone : (tied : Type 0) (was new : Store) → was.map ≡ old → tied → count ≡ 1 → ReleasesPage tied number was new → RemovesPart form old new.map number cell Gone
    leaf_gone tied was new is holds one releases = record { each = by_height } where
      by_height : (height : ℕ) (shape : Shape height) (others : ℕ → ℕ) → IsPart form old number height shape → Ascends (cells_of height shape) → Shares old (uses height shape & others)
          → IsRemoved form old new.map number height (uses height shape) cell (cells_of height shape) Gone
      by_height zero shape others part up shares =
          let same = leaf_cells says layout old number page count 0 shape part lent node in
          let moved = releases-moves was.map new.map number releases.was releases.past releases.lends.below (used_there was.map number releases.was (releases.lends.bytes holds) releases.lends.in_use) (releases.releases holds) in
          let none : take at rs ++ drop (suc at) rs ≡ [] = only rs at there (length-records count layout.width (content page) ∙ one) in
          record {
            some = subst (λ cs. Contains cs cell) (sym same) (found_among rs cell at there);
            left = record {
              parts = [];
              lie = tt;
              top = refl;
              lists = sym (ap (without_cell cell) same ∙ without_at rs cell at (subst Ascends same up) there ∙ none);
              moves = moves_same old new.map (one_at number) no_pages (uses 0 shape) (uses_all 0 []) (λ n. ap (λ top. one_at top n) part.top) (λ n. refl) (subst (λ m. Moves m new.map (one_at number) no_pages) is moved);
            };
          } where
            only : (xs : List (List ℕ)) (i : ℕ) → slice_get xs i ≡ Some cell → length xs ≡ 1 → take i xs ++ drop (suc i) xs ≡ []
            only [] i e h = absurd (cc)
            only (x ∷ []) zero e h = refl
            only (x ∷ []) (suc i) e h = absurd (cc)
            only (x ∷ y ∷ ys) i e h = absurd (omega arith)
      by_height (suc height) shape others part up shares = absurd (leaf_no_inner height shape part)

    -- the others stay
    pub leaf_kept : (new : PageMap) (bytes : List ℕ) → (count ≡ 1 → ⊥) → Splices old new number kind.Leaf layout.width count at 1 (records 0 layout.width bytes) → RemovesPart form old new number cell Kept
    leaf_kept new bytes more splices = record { each = by_height } where
      by_height : (height : ℕ) (shape : Shape height) (others : ℕ → ℕ) → IsPart form old number height shape → Ascends (cells_of height shape) → Shares old (uses height shape & others)
          → IsRemoved form old new number height (uses height shape) cell (cells_of height shape) Kept
      by_height zero shape others part up shares =
          let same = leaf_cells says layout old number page count 0 shape part lent node in
          let counted : count ≡ length shape.cells = sym (length-records count layout.width (content page)) ∙ sym (ap length same) in
          let here : Splices old new shape.page kind.Leaf layout.width (length shape.cells) at 1 (records 0 layout.width bytes) =
          subst (λ n. Splices old new n kind.Leaf layout.width (length shape.cells) at 1 (records 0 layout.width bytes)) (sym part.top)
          (subst (λ n. Splices old new number kind.Leaf layout.width n at 1 (records 0 layout.width bytes)) counted splices) in
          let has_it : slice_get shape.cells at ≡ Some cell = ap (λ cs. slice_get cs at) same ∙ there in
          let next : at + 1 ≡ suc at = omega arith in
          let left : take at shape.cells ++ (records 0 layout.width bytes ++ drop (at + 1) shape.cells) ≡ without_cell cell shape.cells =
          ap (λ xs. take at shape.cells ++ (xs ++ drop (at + 1) shape.cells)) (records_none layout.width bytes) ∙ ap (λ n. take at shape.cells ++ drop n shape.cells) next
          ∙ sym (without_at shape.cells cell at up has_it) in
          let some : 1 ≤ length (take at shape.cells ++ (records 0 layout.width bytes ++ drop (at + 1) shape.cells)) =
          omega (arith, rest_length shape.cells at has_it, ap length left, ap length (without_at shape.cells cell at up has_it), counted, node.1, nat_one count more) in
          let place = leaf_written form old new shape at 1 (records 0 layout.width bytes) part.lies here some in
          record {
            some = found_among shape.cells cell at has_it;
            left = subst (λ n. TakesPlace form old new 0 (uses 0 shape) (n ∷ []) (without_cell cell shape.cells)) part.top
                (subst (TakesPlace form old new 0 (uses 0 shape) (shape.page ∷ [])) left place);
          } where
            rest_length : (xs : List (List ℕ)) (i : ℕ) → slice_get xs i ≡ Some cell → length (take i xs ++ drop (suc i) xs) + 1 ≡ length xs
            rest_length [] i e = absurd (cc)
            rest_length (x ∷ xs) zero e = omega arith
            rest_length (x ∷ xs) (suc i) e = omega (arith, rest_length xs i e)

            nat_one : (n : ℕ) → (n ≡ 1 → ⊥) → (n ≡ 0) ⊎ (2 ≤ n)
            nat_one zero h = inl refl
            nat_one (suc zero) h = absurd (h refl)
            nat_one (suc (suc n)) h = inr (omega arith)
      by_height (suc height) shape others part up shares = absurd (leaf_no_inner height shape part)
