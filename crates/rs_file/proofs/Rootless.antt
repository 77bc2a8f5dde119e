-- Trees that have no root have no pages.
use Rattle.std.proofs.Common.{◌≡◌, ℕ, List, [], ◌∷◌, ◌++◌, refl, subst, arith}
use Rattle.std.specs.List.{AllByRecursion}
use Rattle.rs_attr.specs.Entries.{index_form}
use Rattle.rs_attr.specs.Tables.{HoldIndexes, IndexState, all_of}
use Rattle.rs_attr.proofs.Placing.{all_of-cons}
use Rattle.rs_file.specs.Contents.{Contents, HasNoRoots, HoldsParts, LiesTable, TableContents, table_pages}
use Rattle.rs_file.proofs.Parts.{table_goes}
use Rattle.rs_page_owners.specs.Counts.{no_pages}
use Rattle.rs_pages.specs.PageMap.{PageMap}
use Rattle.rs_tree.specs.Form.{Form}
use Rattle.rs_tree.specs.Tree.{IsTree}
use Rattle.rs_tree.proofs.Ones.{tree_has_its_pages}
use Rattle.rs_versioned.specs.Events.{kept_events}

empty_tree : (form : Form) (file : PageMap) → IsTree form file 0 [] no_pages
empty_tree form file = record { height = 0; stands = record { none = refl; no_cells = refl; no_pages = λ n. refl }; ascends = tt; once = λ n. omega arith }

tree_rootless : (form : Form) (file : PageMap) (root : ℕ) (cells : List (List ℕ)) (used : ℕ → ℕ) → root ≡ 0 → IsTree form file root cells used → (n : ℕ) → used n ≡ 0
tree_rootless form file root cells used none tree =
    tree_has_its_pages form file 0 cells [] used no_pages (subst (λ (r : ℕ). IsTree form file r cells used) none tree) (empty_tree form file)

indexes_rootless : (file : PageMap) (indexes : List IndexState) (cells : List (List ℕ)) (uses : List (ℕ → ℕ)) → AllByRecursion (λ index. index.working ≡ 0) indexes
    → HoldIndexes file indexes cells uses → (n : ℕ) → all_of uses n ≡ 0
indexes_rootless file [] cells [] none hold n = refl
indexes_rootless file [] cells (u ∷ us) none hold n = absurd hold
indexes_rootless file (i ∷ is) cells [] none hold n = absurd hold
indexes_rootless file (i ∷ is) cells (u ∷ us) none hold n =
    omega (
      arith,
      all_of-cons u us n,
      tree_rootless (index_form i.field) file i.working hold.0.entries u none.0 hold.0.tree n,
      indexes_rootless file is cells us none.1 hold.1 n,
    )

-- nor has a table with its indexes
pub table_rootless : (file : PageMap) (accepted : ℕ) (table : TableContents) → LiesTable file accepted table → HasNoRoots table → (n : ℕ) → table_pages table n ≡ 0
table_rootless file accepted table lies none n =
    omega (
      arith,
      tree_rootless (kept_events table.types).form file table.standing.root lies.records.cells table.used none.records lies.records.holds.tree n,
      indexes_rootless file table.indexes lies.records.cells table.uses none.indexes lies.entries n,
    )

-- one of them
one_of : (P : TableContents → Type 0) (before after : List TableContents) (table : TableContents) → AllByRecursion P (before ++ table ∷ after) → P table
one_of P [] after table all = all.0
one_of P (b ∷ bs) after table all = one_of P bs after table all.1

pub rootless_goes : (file : PageMap) (accepted : ℕ) (contents : Contents) (before after : List TableContents) (table : TableContents) → contents.tables ≡ before ++ table ∷ after
    → HoldsParts file accepted contents → HasNoRoots table → HoldsParts file accepted (record contents { tables = before ++ after })
rootless_goes file accepted contents before after table are parts none =
    let lies = one_of (LiesTable file accepted) before after table (subst (AllByRecursion (LiesTable file accepted)) are parts.tables) in
    table_goes file accepted contents parts before after table are (table_rootless file accepted table lies none)
