-- How many cells a tree has, once a part at its root was checked.
use Rattle.std.proofs.Common.{◌≡◌, ◌<◌, ◌≤◌, ◌^◌, ℕ, None, List, [], length, ap, ◌∙◌, arith}
use Rattle.rs_pages.specs.PageMap.{PageMap}
use Rattle.rs_tree.specs.Form.{Form}
use Rattle.rs_tree.specs.Shape.{cells_of, uses}
use Rattle.rs_tree.specs.Tree.{IsTree}
use Rattle.rs_tree.proofs.Ones.{tree_has_its_cells}
use Rattle.rs_tree_whole.specs.Checking.{Reaches}
use Rattle.rs_tree_whole.proofs.Reaching.{tree_none, tree_root}
use Rattle.rs_tree_whole.proofs.Sizes.{tree_le}

module _ (form : Form) (pages : PageMap) (root : ℕ) (cells : List (List ℕ)) (used : ℕ → ℕ) (tree : IsTree form pages root cells used) where
  -- the empty tree has none
  pub counted_none : root ≡ 0 → 0 ≡ length cells
  counted_none none =
      ap length (tree_has_its_cells form pages root [] cells (λ _. 0) used (tree_none form pages root none) tree)

  -- they are few enough to be counted exactly
  pub counted_root : {S : Type 0} (sum : List (List ℕ) → S) (before after : ℕ → ℕ) (height total : ℕ) (summary : S) → 1 ≤ form.width → pages.fields.pages < 2 ^ 32 → ((n : ℕ) → after n ≤ 1)
      → Reaches sum form pages root None None before after height total summary → total ≡ length cells
  counted_root sum before after height total summary wide few once found =
      let found_tree = tree_root form pages root sum before after height total summary once found in
      let same : length (cells_of height found.shape) ≡ length cells = ap length (tree_has_its_cells form pages root (cells_of height found.shape) cells (uses height found.shape) used found_tree tree) in
      let most = tree_le form pages wide root cells used tree in
      found.counts (omega (arith, same, most, few)) ∙ same
