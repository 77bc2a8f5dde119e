-- What the checks of an insertion find.
use Rattle.std.specs.Prelude.{◌≡◌, ◌≤◌, true, Some, Ok}
use Rattle.std.specs.FinMap as names
use Rattle.rs_value.specs.Row.{Row}
use Rattle.rs_value.specs.Values.{IsRowOf}
use Rattle.rs_facts.specs.Fact.{Name}
use Rattle.rs_facts.specs.Spans.{IsPlaced, seen}
use Rattle.rs_syntax.specs.Tree.{EventLocationTree}
use Rattle.rs_machine.specs.Checks.{same_kind, location_kind, row_fits, column_types}
use Rattle.rs_catalog.specs.Definitions.{RouteItem, TableItem, Definitions}
use Rattle.rs_catalog.specs.Events.{behind}
use Rattle.rs_catalog.specs.Referents.{referents_on}
use Rattle.rs_command_checks.specs.declared.checks.Checks.{Checks}
use Rattle.rs_command_checks.specs.declared.events.Insertion.{Insertion}
use Rattle.rs_command_checks.specs.Located.{event_span_by}

-- The table and the route are there by these numbers, the table is of this kind, the row is one of its columns, and the span is
-- of the kind and lies on the route.
pub record IsEventOn (definitions : Definitions) (name route : Name) (insertion : Insertion) : Type 0 where
  pub table : TableItem
  pub table_there : names.get definitions.tables name ≡ Some table
  pub table_numbered : table.number ≡ insertion.table
  pub of_kind : table.kind ≡ insertion.kind
  pub on : RouteItem
  pub route_there : names.get definitions.routes route ≡ Some on
  pub route_numbered : on.number ≡ insertion.route
  pub row : IsRowOf (column_types table.columns) (seen insertion.span).row
  pub placed : IsPlaced insertion.kind (seen insertion.span)
  pub from : on.ends.start ≤ insertion.span.lo
  pub upto : insertion.span.hi ≤ behind insertion.kind on.ends

-- The route and the table are there by these numbers, the place is this span on the route, the table is of this kind, which is
-- the place's, and the row fits it.
pub record MayBePut (checks : Checks) (name route : Name) (place : EventLocationTree) (row : Row) (insertion : Insertion) : Type 0 where
  pub on : RouteItem
  pub table : TableItem
  pub route_there : names.get checks.catalog.now.routes route ≡ Some on
  pub route_numbered : on.number ≡ insertion.route
  pub table_there : names.get checks.catalog.now.tables name ≡ Some table
  pub table_numbered : table.number ≡ insertion.table
  pub of_kind : table.kind ≡ insertion.kind
  pub row_is : (seen insertion.span).row ≡ row
  pub located : event_span_by on.ends (referents_on checks.referents.now on.number) place ≡ Ok (insertion.span.lo, insertion.span.hi)
  pub of_place : same_kind table.kind (location_kind place) ≡ true
  pub fits : row_fits table.columns row ≡ Ok tt
