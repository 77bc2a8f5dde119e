-- What the machine answers an insertion and a removal: which check fails, or what it changes.
use Rattle.std.proofs.Common.{◌≡◌, ℕ, Bool, true, false, Option, Some, None, Result, Ok, Err, refl, ap, ◌∙◌}
use Rattle.std.specs.FinMap as names
use Rattle.rs_refusal.specs.declared.refusal.Refusal.{Refusal}
use Rattle.rs_refusal.specs.declared.refusal.Refusal.TheVariants.{NoSuchRoute, NoSuchName, PointOrLineWanted}
use Rattle.rs_value.specs.Row.{Row}
use Rattle.rs_facts.specs.Fact.{Name}
use Rattle.rs_facts.specs.Insert.{new_facts}
use Rattle.rs_facts.specs.Remove.{removed_facts}
use Rattle.rs_facts.specs.Query.{RouteEnds, Table}
use Rattle.rs_syntax.specs.Tree.{EventLocationTree, along, at_point, WindowTree, whole_route, part_of_route, ConditionTree}
use Rattle.rs_machine.specs.Checks.{◌>>=◌, unless, found, event_span, window_span, window_route, same_kind, location_kind, row_fits}
use Rattle.rs_machine.specs.Checking.{removal_checked}
use Rattle.rs_machine.specs.Step.{Effect, counted, may_change, row_inserted, rows_removed, with_table, with_facts_along, without_facts}
use Rattle.rs_catalog.specs.Definitions.{RouteItem, TableItem, on_numbered, table_from, referents_from}
use Rattle.rs_catalog.specs.Referents.{referents_on}
use Rattle.rs_command_checks.specs.declared.checks.Checks.{Checks}
use Rattle.rs_command_checks.specs.States.{Unseen, state_by}
use Rattle.rs_command_checks.specs.Located.{event_span_by, window_span_by}
use Rattle.rs_command_checks.proofs.Outcomes.{no_route, route_at, no_table, table_at}

module _ (checks : Checks) (unseen : Unseen) where
  no_route_found : (route : Name) → names.get checks.catalog.now.routes route ≡ None → found (names.get (state_by checks unseen).routes route) NoSuchRoute ≡ Err NoSuchRoute
  no_route_found route none = ap (λ o. found o NoSuchRoute) (no_route checks unseen route none)

  route_found : (route : Name) (on : RouteItem) → names.get checks.catalog.now.routes route ≡ Some on → found (names.get (state_by checks unseen).routes route) NoSuchRoute ≡ Ok on.ends
  route_found route on there = ap (λ o. found o NoSuchRoute) (route_at checks unseen route on there)

  no_table_found : (name : Name) → names.get checks.catalog.now.tables name ≡ None → found (names.get (state_by checks unseen).tables name) NoSuchName ≡ Err NoSuchName
  no_table_found name none = ap (λ o. found o NoSuchName) (no_table checks unseen name none)

  abbrev pub table_of : TableItem → Table
  table_of item = table_from checks.catalog.now.routes unseen.spans item

  table_found : (name : Name) (item : TableItem) → names.get checks.catalog.now.tables name ≡ Some item → found (names.get (state_by checks unseen).tables name) NoSuchName ≡ Ok (table_of item)
  table_found name item there = ap (λ o. found o NoSuchName) (table_at checks unseen name item there)

  -- ---- a row is put

  -- after the route, after the table, after the span, after the kind, and after the row
  abbrev with_row_fitting : Name → Name → Table → ℕ × ℕ → Row → Result (Unit {0}) Refusal → Result Effect Refusal
  with_row_fitting name route table span row fitting = fitting >>= λ _. (may_change (state_by checks unseen) >>= λ _. Ok (counted (new_facts table.facts route span.0 span.1 row) (with_table (state_by checks unseen) name (with_facts_along table route span.0 span.1 row))))

  abbrev with_kind : Name → Name → Table → ℕ × ℕ → Row → Bool → Result Effect Refusal
  with_kind name route table span row same = unless same PointOrLineWanted >>= λ _. with_row_fitting name route table span row (row_fits table.columns row)

  abbrev with_span : Name → Name → Table → EventLocationTree → Row → Result (ℕ × ℕ) Refusal → Result Effect Refusal
  with_span name route table place row span = span >>= λ span. with_kind name route table span row (same_kind table.kind (location_kind place))

  abbrev with_its_table : Name → Name → RouteEnds → EventLocationTree → Row → Result Table Refusal → Result Effect Refusal
  with_its_table name route ends place row table = table >>= λ table. with_span name route table place row (event_span (state_by checks unseen) route ends place)

  abbrev with_its_route : Name → Name → EventLocationTree → Row → Result RouteEnds Refusal → Result Effect Refusal
  with_its_route name route place row ends = ends >>= λ ends. with_its_table name route ends place row (found (names.get (state_by checks unseen).tables name) NoSuchName)

  module _ (name route : Name) (place : EventLocationTree) (row : Row) where
    pub row_no_route : names.get checks.catalog.now.routes route ≡ None → row_inserted (state_by checks unseen) name route place row ≡ Err NoSuchRoute
    row_no_route none = ap (with_its_route name route place row) (no_route_found route none)

    module _ (on : RouteItem) (route_there : names.get checks.catalog.now.routes route ≡ Some on) where
      event_span_there : event_span (state_by checks unseen) route on.ends place ≡ event_span_by on.ends (referents_on checks.referents.now on.number) place
      unfolding referents_from
      event_span_there = elim place as (λ place. event_span (state_by checks unseen) route on.ends place ≡ event_span_by on.ends (referents_on checks.referents.now on.number) place) [
        | along from to ↦ ap (λ o. event_span_by on.ends (on_numbered names.empty (referents_on checks.referents.now) o) (along from to)) route_there
        | at_point position ↦ ap (λ o. event_span_by on.ends (on_numbered names.empty (referents_on checks.referents.now) o) (at_point position)) route_there
      ]

      on_route : row_inserted (state_by checks unseen) name route place row ≡ with_its_table name route on.ends place row (found (names.get (state_by checks unseen).tables name) NoSuchName)
      on_route = ap (with_its_route name route place row) (route_found route on route_there)

      pub row_no_table : names.get checks.catalog.now.tables name ≡ None → row_inserted (state_by checks unseen) name route place row ≡ Err NoSuchName
      row_no_table none = on_route ∙ ap (with_its_table name route on.ends place row) (no_table_found name none)

      module _ (table : TableItem) (table_there : names.get checks.catalog.now.tables name ≡ Some table) where
        of_table : row_inserted (state_by checks unseen) name route place row ≡ with_span name route (table_of table) place row (event_span_by on.ends (referents_on checks.referents.now on.number) place)
        of_table = on_route ∙ ap (with_its_table name route on.ends place row) (table_found name table table_there) ∙ ap (with_span name route (table_of table) place row) event_span_there

        pub row_off_route : (refusal : Refusal) → event_span_by on.ends (referents_on checks.referents.now on.number) place ≡ Err refusal → row_inserted (state_by checks unseen) name route place row ≡ Err refusal
        row_off_route refusal e = of_table ∙ ap (with_span name route (table_of table) place row) e

        module _ (span : ℕ × ℕ) (located : event_span_by on.ends (referents_on checks.referents.now on.number) place ≡ Ok span) where
          placed : row_inserted (state_by checks unseen) name route place row ≡ with_kind name route (table_of table) span row (same_kind table.kind (location_kind place))
          placed = of_table ∙ ap (with_span name route (table_of table) place row) located

          pub row_other_kind : same_kind table.kind (location_kind place) ≡ false → row_inserted (state_by checks unseen) name route place row ≡ Err PointOrLineWanted
          row_other_kind e = placed ∙ ap (with_kind name route (table_of table) span row) e

          module _ (of_kind : same_kind table.kind (location_kind place) ≡ true) where
            fitting : row_inserted (state_by checks unseen) name route place row ≡ with_row_fitting name route (table_of table) span row (row_fits table.columns row)
            fitting = placed ∙ ap (with_kind name route (table_of table) span row) of_kind

            pub row_misfit : (refusal : Refusal) → row_fits table.columns row ≡ Err refusal → row_inserted (state_by checks unseen) name route place row ≡ Err refusal
            row_misfit refusal e = fitting ∙ ap (with_row_fitting name route (table_of table) span row) e

            pub row_passed : row_fits table.columns row ≡ Ok tt → row_inserted (state_by checks unseen) name route place row
                ≡ (may_change (state_by checks unseen) >>= λ _. Ok (counted (new_facts (table_of table).facts route span.0 span.1 row) (with_table (state_by checks unseen) name (with_facts_along (table_of table) route span.0 span.1 row))))
            row_passed e = fitting ∙ ap (with_row_fitting name route (table_of table) span row) e

  -- ---- rows are taken away

  abbrev with_test : Name → Name → Table → ℕ × ℕ → Result (Row → Bool) Refusal → Result Effect Refusal
  with_test name route table span goes = goes >>= λ goes. (may_change (state_by checks unseen) >>= λ _. Ok (counted (removed_facts table.facts route span.0 span.1 goes) (with_table (state_by checks unseen) name (without_facts table route span.0 span.1 goes))))

  abbrev with_window : Name → Name → Table → Option ConditionTree → Result (ℕ × ℕ) Refusal → Result Effect Refusal
  with_window name route table condition span = span >>= λ span. with_test name route table span (removal_checked table.columns condition)

  abbrev with_that_table : Name → RouteEnds → WindowTree → Option ConditionTree → Result Table Refusal → Result Effect Refusal
  with_that_table name ends window condition table = table >>= λ table. with_window name (window_route window) table condition (window_span (state_by checks unseen) ends window)

  abbrev with_that_route : Name → WindowTree → Option ConditionTree → Result RouteEnds Refusal → Result Effect Refusal
  with_that_route name window condition ends = ends >>= λ ends. with_that_table name ends window condition (found (names.get (state_by checks unseen).tables name) NoSuchName)

  module _ (name : Name) (window : WindowTree) (condition : Option ConditionTree) where
    pub removal_no_route : names.get checks.catalog.now.routes (window_route window) ≡ None → rows_removed (state_by checks unseen) name window condition ≡ Err NoSuchRoute
    removal_no_route none = ap (with_that_route name window condition) (no_route_found (window_route window) none)

    module _ (on : RouteItem) (route_there : names.get checks.catalog.now.routes (window_route window) ≡ Some on) where
      window_span_there : window_span (state_by checks unseen) on.ends window ≡ window_span_by on.ends (referents_on checks.referents.now on.number) window
      unfolding referents_from
      window_span_there = elim window as (λ window. names.get checks.catalog.now.routes (window_route window) ≡ Some on → window_span (state_by checks unseen) on.ends window ≡ window_span_by on.ends (referents_on checks.referents.now on.number) window) [
        | whole_route route ↦ λ e. refl
        | part_of_route route from to ↦ λ e. ap (λ o. window_span_by on.ends (on_numbered names.empty (referents_on checks.referents.now) o) (part_of_route route from to)) e
      ] route_there

      on_that_route : rows_removed (state_by checks unseen) name window condition ≡ with_that_table name on.ends window condition (found (names.get (state_by checks unseen).tables name) NoSuchName)
      on_that_route = ap (with_that_route name window condition) (route_found (window_route window) on route_there)

      pub removal_no_table : names.get checks.catalog.now.tables name ≡ None → rows_removed (state_by checks unseen) name window condition ≡ Err NoSuchName
      removal_no_table none = on_that_route ∙ ap (with_that_table name on.ends window condition) (no_table_found name none)

      module _ (table : TableItem) (table_there : names.get checks.catalog.now.tables name ≡ Some table) where
        of_that_table : rows_removed (state_by checks unseen) name window condition ≡ with_window name (window_route window) (table_of table) condition (window_span_by on.ends (referents_on checks.referents.now on.number) window)
        of_that_table = on_that_route ∙ ap (with_that_table name on.ends window condition) (table_found name table table_there) ∙ ap (with_window name (window_route window) (table_of table) condition) window_span_there

        pub removal_off_route : (refusal : Refusal) → window_span_by on.ends (referents_on checks.referents.now on.number) window ≡ Err refusal → rows_removed (state_by checks unseen) name window condition ≡ Err refusal
        removal_off_route refusal e = of_that_table ∙ ap (with_window name (window_route window) (table_of table) condition) e

        module _ (span : ℕ × ℕ) (located : window_span_by on.ends (referents_on checks.referents.now on.number) window ≡ Ok span) where
          window_placed : rows_removed (state_by checks unseen) name window condition ≡ with_test name (window_route window) (table_of table) span (removal_checked table.columns condition)
          window_placed = of_that_table ∙ ap (with_window name (window_route window) (table_of table) condition) located

          pub removal_no_test : (refusal : Refusal) → removal_checked table.columns condition ≡ Err refusal → rows_removed (state_by checks unseen) name window condition ≡ Err refusal
          removal_no_test refusal e = window_placed ∙ ap (with_test name (window_route window) (table_of table) span) e

          pub removal_passed : (goes : Row → Bool) → removal_checked table.columns condition ≡ Ok goes → rows_removed (state_by checks unseen) name window condition
              ≡ (may_change (state_by checks unseen) >>= λ _. Ok (counted (removed_facts (table_of table).facts (window_route window) span.0 span.1 goes) (with_table (state_by checks unseen) name (without_facts (table_of table) (window_route window) span.0 span.1 goes))))
          removal_passed goes e = window_placed ∙ ap (with_test name (window_route window) (table_of table) span) e
