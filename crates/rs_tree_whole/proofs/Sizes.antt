-- A tree has no more cells than its pages have room for.
use Rattle.std.proofs.Common.{◌≡◌, ◌≤◌, ◌*◌, ℕ, zero, suc, List, [], ◌∷◌, length, ap, arith}
use Rattle.std.proofs.Math.Nat.{mul-le-mul_left}
use Rattle.std.proofs.lemmas.List.{length-append}
use Rattle.std.proofs.lemmas.List.Sums.{sum_by-cons}
use Rattle.std.specs.List.{AllByRecursion, flat_map, sum_by}
use Rattle.rs_page.specs.declared.header.PageKind.TheVariants.{Leaf}
use Rattle.rs_pages.specs.PageMap.{PageMap}
use Rattle.rs_tree.specs.Form.{Form}
use Rattle.rs_tree.specs.Shape.{Shape, Lies, cells_of, size_of}
use Rattle.rs_tree.specs.Tree.{IsTree, Stands}
use Rattle.rs_tree.proofs.Bounds.{size-le}
use Rattle.rs_tree.proofs.Entering.{records_fit}

module _ (form : Form) (pages : PageMap) where
  parts_le : (height : ℕ) (parts : List (Shape height)) → AllByRecursion (Lies form pages height) parts
      → ((part : Shape height) → Lies form pages height part → length (cells_of height part) ≤ 4080 * size_of height part)
      → length (flat_map (cells_of height) parts) ≤ 4080 * sum_by (size_of height) parts
  parts_le height [] all le = omega arith
  parts_le height (x ∷ xs) all le =
      omega (arith, le x all.0, parts_le height xs all.1 le, length-append (cells_of height x) (flat_map (cells_of height) xs), sum_by-cons (size_of height) x xs)

  cells_le : 1 ≤ form.width → (height : ℕ) (shape : Shape height) → Lies form pages height shape → length (cells_of height shape) ≤ 4080 * size_of height shape
  cells_le wide zero shape lies =
      let fit : length shape.cells * form.width ≤ 4080 = records_fit lies.page Leaf shape.page (length shape.cells) form.width lies.leaf.has in
      let each : length shape.cells * 1 ≤ length shape.cells * form.width = mul-le-mul_left (length shape.cells) wide in
      omega arith
  cells_le wide (suc height) shape lies =
      let below = parts_le height shape.parts lies.1 (λ part lie. cells_le wide height part lie) in
      omega arith

  stands_le : 1 ≤ form.width → (root : ℕ) (cells : List (List ℕ)) (used : ℕ → ℕ) (height : ℕ) → Stands form pages height root cells used → ((n : ℕ) → used n ≤ 1)
      → length cells ≤ 4080 * pages.fields.pages
  stands_le wide root cells used zero stands once = let none : length cells ≡ 0 = ap length stands.no_cells in omega arith
  stands_le wide root cells used (suc height) stands once =
      let size = size-le form pages height stands.shape stands.lies (λ n. omega (arith, stands.owns n, once n)) in
      let most = cells_le wide height stands.shape stands.lies in
      let same : length (cells_of height stands.shape) ≡ length cells = ap length stands.lists in
      omega arith

  -- at most so many cells for each page of the file
  pub tree_le : 1 ≤ form.width → (root : ℕ) (cells : List (List ℕ)) (used : ℕ → ℕ) → IsTree form pages root cells used → length cells ≤ 4080 * pages.fields.pages
  tree_le wide root cells used tree = stands_le wide root cells used tree.height tree.stands tree.once
