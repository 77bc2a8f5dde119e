-- What the checks of a removal find.
use Rattle.std.specs.Prelude.{◌≡◌, Option, Some, Ok}
use Rattle.std.specs.FinMap as names
use Rattle.rs_facts.specs.Fact.{Name}
use Rattle.rs_syntax.specs.Tree.{WindowTree, ConditionTree}
use Rattle.rs_machine.specs.Checks.{window_route}
use Rattle.rs_machine.specs.Checking.{removal_checked}
use Rattle.rs_catalog.specs.Definitions.{RouteItem, TableItem, Definitions}
use Rattle.rs_catalog.specs.Referents.{referents_on}
use Rattle.rs_spans.specs.Removal.{goes_by}
use Rattle.rs_command_checks.specs.declared.checks.Checks.{Checks}
use Rattle.rs_command_checks.specs.declared.events.Removal.{Removal}
use Rattle.rs_command_checks.specs.Located.{window_span_by}

-- the table and the route are there by these numbers
pub record AreThere (definitions : Definitions) (name route : Name) (removal : Removal) : Type 0 where
  pub table : TableItem
  pub table_there : names.get definitions.tables name ≡ Some table
  pub table_numbered : table.number ≡ removal.table
  pub on : RouteItem
  pub route_there : names.get definitions.routes route ≡ Some on
  pub route_numbered : on.number ≡ removal.route

-- The window's route and the table are there by these numbers, the window lies there, and the condition is one of the table's
-- columns.
pub record MayBeTaken (checks : Checks) (name : Name) (window : WindowTree) (condition : Option ConditionTree) (removal : Removal) : Type 0 where
  pub there : AreThere checks.catalog.now name (window_route window) removal
  pub located : window_span_by there.on.ends (referents_on checks.referents.now there.on.number) window ≡ Ok (removal.lo, removal.hi)
  pub goes : removal_checked there.table.columns condition ≡ Ok (goes_by removal.goes)
