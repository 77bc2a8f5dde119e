-- A tree has some cells where it has pages.
use Rattle.std.proofs.Common.{◌≡◌, ◌≤◌, ℕ, zero, suc, List, [], ◌∷◌, length, ap, arith}
use Rattle.std.proofs.lemmas.List.{length-append, length-map}
use Rattle.std.specs.List.{AllByRecursion, flat_map}
use Rattle.rs_pages.specs.PageMap.{PageMap}
use Rattle.rs_tree.specs.Form.{Form}
use Rattle.rs_tree.specs.Shape.{Shape, Lies, cells_of, child_of}
use Rattle.rs_tree.specs.Tree.{IsTree, Stands}

module _ (form : Form) (pages : PageMap) where
  some_first : (height : ℕ) (parts : List (Shape height)) → AllByRecursion (Lies form pages height) parts → 1 ≤ length parts
      → ((part : Shape height) → Lies form pages height part → 1 ≤ length (cells_of height part)) → 1 ≤ length (flat_map (cells_of height) parts)
  some_first height [] all some each = absurd (omega arith)
  some_first height (x ∷ xs) all some each = omega (arith, each x all.0, length-append (cells_of height x) (flat_map (cells_of height) xs))

  some_cells : (height : ℕ) (shape : Shape height) → Lies form pages height shape → 1 ≤ length (cells_of height shape)
  some_cells zero shape lies = lies.leaf.some
  some_cells (suc height) shape lies =
      let two : 2 ≤ length shape.parts = omega (arith, lies.0.inner.some, length-map shape.parts (child_of height)) in
      some_first height shape.parts lies.1 (omega arith) (λ part lie. some_cells height part lie)

  stands_none : (root : ℕ) (used : ℕ → ℕ) (height : ℕ) → Stands form pages height root [] used → (n : ℕ) → used n ≡ 0
  stands_none root used zero stands n = stands.no_pages n
  stands_none root used (suc height) stands n =
      let some = some_cells height stands.shape stands.lies in
      let none : length (cells_of height stands.shape) ≡ 0 = ap length stands.lists in
      absurd (omega arith)

  -- the tree of no cells has no pages
  pub no_cells_no_pages : (root : ℕ) (used : ℕ → ℕ) → IsTree form pages root [] used → (n : ℕ) → used n ≡ 0
  no_cells_no_pages root used tree = stands_none root used tree.height tree.stands
