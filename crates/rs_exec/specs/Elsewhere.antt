-- Plans that have no rows on a route.
use Rattle.std.specs.Prelude.{◌≡◌, ℕ, List, [], ◌∷◌, map}
use Rattle.rs_facts.specs.Fact.{none}
use Rattle.rs_plan.specs.declared.plan.Plan.{Plan, fold-Plan}
use Rattle.rs_plan.specs.declared.plan.Plan.TheOpen.{Plan-F}
use Rattle.rs_plan.specs.declared.plan.PlannedWindow.{PlannedWindow}
use Rattle.rs_exec.specs.Snapshot.{Snapshot}
use Rattle.rs_exec.specs.Meaning.{meaning_of, rows_in, rows_together}

-- in no snapshot it has a row on the route of this number
abbrev pub HasNothingOn : ℕ → Plan → Type 0
HasNothingOn route plan = (snapshot : Snapshot) (k : ℕ) → rows_in plan snapshot route k ≡ none

-- nor have the rows of these operands side by side
abbrev pub BeginsWithNothingOn : ℕ → List Plan → Type 0
BeginsWithNothingOn route operands = (snapshot : Snapshot) (k : ℕ) → rows_together (map meaning_of operands) snapshot route k ≡ none

-- ---- the windows that all rows of a plan are inside of

-- those of the first of several operands
abbrev pub windows_of_first : List (List PlannedWindow) → List PlannedWindow
windows_of_first [] = []
windows_of_first (windows ∷ others) = windows

-- Rows of an OVERLAY and of a MINUS are where those of its first operand are. Of COVER, MERGE, TRANSFORM and GAPS none are
-- told, since each row may come from either operand or from another route, and gaps are where no row is.
abbrev pub windows_step : Plan-F (List PlannedWindow) → List PlannedWindow
windows_step (Plan-F.Leaf leaf) = leaf.windows.items
windows_step (Plan-F.Where conditions plan) = plan.value
windows_step (Plan-F.Dissolve columns plan) = plan.value
windows_step (Plan-F.Overlay back operands) = windows_of_first operands.items
windows_step (Plan-F.Cover left_width right_width left right) = []
windows_step (Plan-F.Merge left right) = []
windows_step (Plan-F.Minus left right) = left.value
windows_step (Plan-F.Window windows plan) = windows.items
windows_step (Plan-F.Transform name pieces plan) = []
windows_step (Plan-F.Gaps plan) = []

abbrev pub windows_over : Plan → List PlannedWindow
windows_over = fold-Plan (List PlannedWindow) windows_step
