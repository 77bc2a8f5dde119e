-- Cells with versions that lie in a tree already, looked at part by part.
use Rattle.std.specs.Prelude.{◌≡◌, ◌+◌, ℕ, List, count_by, filter, length}
use Rattle.std.specs.List.{AllByRecursion}
use Rattle.rs_pages.specs.PageMap.{PageMap}
use Rattle.rs_tree.specs.Cells.{cells_below}
use Rattle.rs_tree.specs.Form.{Form}
use Rattle.rs_tree.specs.Tree.{IsTree}
use Rattle.rs_cell_versions.specs.declared.told.ToldRecords.{ToldRecords}
use Rattle.rs_cell_versions.specs.Inner.{standing}
use Rattle.rs_cell_versions.specs.Version.{IsDated, is_dead, is_living}
use Rattle.rs_cell_versions.specs.Versioned.{HoldsCells}

-- what is said of the tree: its root, how many cells live and are dead, and the version up to which they are dated
pub record Told : Type 0 where
  pub width : ℕ
  pub root : ℕ
  pub living : ℕ
  pub garbage : ℕ
  pub accepted : ℕ

-- what a file says of the tree, whose cells have this width
abbrev pub told_of : ℕ → ToldRecords → Told
told_of width told = record { width = width; root = told.root; living = told.living; garbage = told.garbage; accepted = told.accepted }

-- what was found below a bound: how many living and dead cells are still to come, and the dead ones
pub record Looked : Type 0 where
  pub told : Told
  pub low : List ℕ
  pub living_left : ℕ
  pub garbage_left : ℕ
  pub dead : List (List ℕ)

-- the cells of the tree below the bound are dated and were counted, and the dead ones are listed in their order
pub record HasCounted (looked : Looked) (passed : List (List ℕ)) : Type 0 where
  pub dated : AllByRecursion (IsDated looked.told.accepted) passed
  pub living : count_by is_living passed + looked.living_left ≡ looked.told.living
  pub garbage : count_by is_dead passed + looked.garbage_left ≡ looked.told.garbage
  pub dead : filter is_dead passed ≡ looked.dead

-- whatever tree stands there, what is below the bound was looked at
pub record HasPassed (form : Form) (pages : PageMap) (looked : Looked) : Type 0 where
  pub each : (cells : List (List ℕ)) (used : ℕ → ℕ) → IsTree form pages looked.told.root cells used
      → HasCounted looked (cells_below looked.low cells)

-- cells as they were told stand there: so many live and so many are dead, and all are dated
pub record StandsTold (form : Form) (pages : PageMap) (told : Told) (dead cells : List (List ℕ)) (used : ℕ → ℕ) : Type 0 where
  pub holds : HoldsCells form pages (standing told.root told.living dead) cells used
  pub garbage : length dead ≡ told.garbage
  pub dated : AllByRecursion (IsDated told.accepted) cells

-- no such cells stand there
pub record StandsOtherwise (form : Form) (pages : PageMap) (told : Told) : Type 0 where
  pub none : (dead cells : List (List ℕ)) (used : ℕ → ℕ) → StandsTold form pages told dead cells used → ⊥
