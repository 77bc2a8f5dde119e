-- How the records of a leaf are found, by the numbers that the code goes by. No clause of another crate speaks of it.
use Rattle.std.specs.Prelude.{ℕ, ◌==◌, Bool, ◌&&◌, List, [], ◌∷◌, Option, Some, None, if◌then◌else◌}
use Rattle.std.specs.List.{list_any}
use Rattle.rs_facts.specs.Condition.{Condition}
use Rattle.rs_planning.specs.Conjuncts.{equates}
use Rattle.rs_checker.specs.declared.checked.CheckedTable.{CheckedTable}
use Rattle.rs_plan.specs.declared.counts.Index.{Index}
use Rattle.rs_plan.specs.declared.plan.Access.{Access}
use Rattle.rs_plan.specs.declared.plan.Access.TheVariants as accesses
use Rattle.rs_plan.specs.declared.plan.PlannedIndex.{PlannedIndex}
use Rattle.rs_plan.specs.declared.plan.PlannedTable.{PlannedTable}
use Rattle.rs_plan.specs.declared.plan.PlannedWindow.{PlannedWindow}

-- the index is of the table of this number, and of a column that is in a condition `column = literal`
abbrev pub serves_as : Index → ℕ → List Condition → Bool
serves_as index table conditions = index.table == table && list_any (equates index.column) conditions

-- the first that serves
abbrev pub index_among : List Index → ℕ → List Condition → Option PlannedIndex
index_among [] table conditions = None
index_among (index ∷ indexes) table conditions = if serves_as index table conditions then Some (record { name = index.name; number = index.number }) else index_among indexes table conditions

abbrev pub access_for : Option PlannedIndex → List PlannedWindow → Access
access_for (Some index) windows = accesses.Index index
access_for None [] = accesses.Scan
access_for None (window ∷ windows) = accesses.Range

abbrev pub planned_table : CheckedTable → PlannedTable
planned_table table = record { name = table.name; number = table.number; kind = table.kind; width = table.width }
