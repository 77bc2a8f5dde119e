-- What an insertion and a removal that pass their checks change.
use Rattle.std.proofs.Common.{◌≡◌, ℕ, suc, ◌+◌, ◌<◌, ◌≤◌, true, nat_lt, Option, Some, Result, Ok, Err, refl, sym, ap, subst, ◌∙◌, arith}
use Rattle.std.specs.FinMap as names
use Rattle.rs_refusal.specs.declared.refusal.Refusal.{Refusal}
use Rattle.rs_methods.specs.Position.{PositionExpression}
use Rattle.rs_value.specs.declared.column.Kind.{Kind}
use Rattle.rs_value.specs.declared.column.Kind.TheVariants.{Point, Line}
use Rattle.rs_value.specs.Row.{Row}
use Rattle.rs_value.specs.Values.{AreValues, IsRowOf}
use Rattle.rs_facts.specs.Fact.{Name, Names}
use Rattle.rs_facts.specs.Insert.{new_facts}
use Rattle.rs_facts.specs.Remove.{removed_facts}
use Rattle.rs_facts.specs.Query.{RouteEnds, Table}
use Rattle.rs_facts.specs.Runs.{Stretch}
use Rattle.rs_facts.specs.Spans.{IsPlaced, seen}
use Rattle.rs_syntax.specs.Tree.{EventLocationTree, along, at_point, WindowTree, ConditionTree}
use Rattle.rs_machine.specs.Checks.{◌>>=◌, same_kind, location_kind, column_types, window_route}
use Rattle.rs_machine.specs.Step.{Effect, counted, may_change, row_inserted, rows_removed, with_table, with_facts_along, without_facts}
use Rattle.rs_catalog.specs.Events.{behind}
use Rattle.rs_catalog.specs.Referents.{referents_on}
use Rattle.rs_spans.specs.Removal.{goes_by}
use Rattle.rs_command_checks.specs.declared.checks.Checks.{Checks}
use Rattle.rs_command_checks.specs.declared.events.Insertion.{Insertion}
use Rattle.rs_command_checks.specs.declared.events.Removal.{Removal}
use Rattle.rs_command_checks.specs.States.{Unseen, state_by}
use Rattle.rs_command_checks.specs.Located.{position_by, span_by, event_span_by}
use Rattle.rs_command_checks.specs.Insertion.{IsEventOn, MayBePut}
use Rattle.rs_command_checks.specs.Removal.{MayBeTaken}
use Rattle.rs_command_checks.proofs.Positions.{located-between, then_ok, in_order, less_than}
use Rattle.rs_command_checks.proofs.Outcomes.{table_at}
use Rattle.rs_command_checks.proofs.EventChecks.{table_of, row_passed, removal_passed}
use Rattle.rs_command_checks.proofs.Rows.{row_fits-row}

-- ---- where an event is put

span-bounds : (ends : RouteEnds) (referents : Names ℕ) (from to : PositionExpression) (span : ℕ × ℕ) → span_by ends referents from to ≡ Ok span → (ends.start ≤ span.0) × (span.0 < span.1) × (span.1 ≤ ends.finish)
span-bounds ends referents from to span e =
    let first = then_ok (position_by ends referents from) _ span e in
    let second = then_ok (position_by ends referents to) _ span first.2 in
    let third = in_order first.0 second.0 (nat_lt first.0 second.0) span second.2 in
    subst (λ (s : ℕ × ℕ). (ends.start ≤ s.0) × (s.0 < s.1) × (s.1 ≤ ends.finish)) third.1
    ((located-between _ _ _ from first.0 first.1).0, less_than _ _ third.0, (located-between _ _ _ to second.0 second.1).1)

point-bounds : (ends : RouteEnds) (referents : Names ℕ) (position : PositionExpression) (span : ℕ × ℕ) → event_span_by ends referents (at_point position) ≡ Ok span → (ends.start ≤ span.0) × (span.1 ≡ suc span.0) × (span.1 ≤ ends.finish + 1)
point-bounds ends referents position span e =
    let first = then_ok (position_by ends referents position) _ span e in
    let lies = located-between _ _ _ position first.0 first.1 in
    subst (λ (s : ℕ × ℕ). (ends.start ≤ s.0) × (s.1 ≡ suc s.0) × (s.1 ≤ ends.finish + 1)) (ok_same _ _ _ refl first.2) (lies.0, omega arith, omega (arith, lies.1))
  where
    ok_same : (a b : ℕ × ℕ) (r : Result (ℕ × ℕ) Refusal) → r ≡ Ok a → r ≡ Ok b → a ≡ b
    ok_same a b r e f = cc

is_line : (kind : Kind) → same_kind kind Line ≡ true → kind ≡ Line
is_line Line e = refl
is_line Point e = cc

is_point : (kind : Kind) → same_kind kind Point ≡ true → kind ≡ Point
is_point Point e = refl
is_point Line e = cc

-- the span lies on the route, and is of the kind
record LiesOnRoute (kind : Kind) (ends : RouteEnds) (span : Stretch) : Type 0 where
  from : ends.start ≤ span.lo
  upto : span.hi ≤ behind kind ends
  placed : IsPlaced kind span

lies_on : (kind : Kind) (ends : RouteEnds) (referents : Names ℕ) (place : EventLocationTree) (span : Stretch) → same_kind kind (location_kind place) ≡ true → event_span_by ends referents place ≡ Ok (span.lo, span.hi) → LiesOnRoute kind ends span
lies_on kind ends referents (along from to) span same located =
    let bounds = span-bounds ends referents from to (span.lo, span.hi) located in
    subst (λ kind. LiesOnRoute kind ends span) (sym (is_line kind same)) (record { from = bounds.0; upto = bounds.2; placed = bounds.1 })
lies_on kind ends referents (at_point position) span same located =
    let bounds = point-bounds ends referents position (span.lo, span.hi) located in
    subst (λ kind. LiesOnRoute kind ends span) (sym (is_point kind same)) (record { from = bounds.0; upto = bounds.2; placed = bounds.1 })

-- ---- a row is put

some_same : {X : Type 0} (o : Option X) (x y : X) → o ≡ Some x → o ≡ Some y → x ≡ y
some_same o x y e f = cc

module _ (checks : Checks) (name route : Name) (place : EventLocationTree) (row : Row) (insertion : Insertion) (may : MayBePut checks name route place row insertion) where
  abbrev span : Stretch
  span = seen insertion.span

  lies : LiesOnRoute insertion.kind may.on.ends span
  lies = subst (λ kind. LiesOnRoute kind may.on.ends span) may.of_kind
      (lies_on may.table.kind may.on.ends (referents_on checks.referents.now may.on.number) place span may.of_place may.located)

  pub event_on : AreValues row → IsEventOn checks.catalog.now name route insertion
  event_on values = record {
    table = may.table;
    table_there = may.table_there;
    table_numbered = may.table_numbered;
    of_kind = may.of_kind;
    on = may.on;
    route_there = may.route_there;
    route_numbered = may.route_numbered;
    row = subst (IsRowOf (column_types may.table.columns)) (sym may.row_is) (row_fits-row may.table.columns row tt values may.fits);
    placed = lies.placed;
    from = lies.from;
    upto = lies.upto;
  }

  module _ (unseen : Unseen) where
    abbrev put_in : Table → Result Effect Refusal
    put_in there = may_change (state_by checks unseen) >>= λ _. Ok (counted (new_facts there.facts route span.lo span.hi span.row) (with_table (state_by checks unseen) name (with_facts_along there route span.lo span.hi span.row)))

    put_passed : row_inserted (state_by checks unseen) name route place row ≡ put_in (table_of checks unseen may.table)
    put_passed = row_passed checks unseen name route place row may.on may.route_there may.table may.table_there (span.lo, span.hi) may.located may.of_place may.fits
        ∙ ap (λ (r : Row). may_change (state_by checks unseen) >>= λ _. Ok (counted (new_facts (table_of checks unseen may.table).facts route span.lo span.hi r) (with_table (state_by checks unseen) name (with_facts_along (table_of checks unseen may.table) route span.lo span.hi r)))) (sym may.row_is)

    pub row_put : (there : Table) → names.get (state_by checks unseen).tables name ≡ Some there → row_inserted (state_by checks unseen) name route place row ≡ put_in there
    row_put there is = put_passed ∙ ap put_in (some_same _ _ _ (table_at checks unseen name may.table may.table_there) is)

    -- the check of the changes fails
    pub row_no_change : (refusal : Refusal) → Err refusal ≡ may_change (state_by checks unseen) → row_inserted (state_by checks unseen) name route place row ≡ Err refusal
    row_no_change refusal e = put_passed ∙ ap (λ (r : Result (Unit {0}) Refusal). r >>= λ _. Ok (counted (new_facts (table_of checks unseen may.table).facts route span.lo span.hi span.row) (with_table (state_by checks unseen) name (with_facts_along (table_of checks unseen may.table) route span.lo span.hi span.row)))) (sym e)

-- ---- rows are taken away

module _ (checks : Checks) (name : Name) (window : WindowTree) (condition : Option ConditionTree) (removal : Removal) (may : MayBeTaken checks name window condition removal)
    (unseen : Unseen) where
  abbrev route : Name
  route = window_route window

  abbrev taken_from : Table → Result Effect Refusal
  taken_from there = may_change (state_by checks unseen) >>= λ _. Ok (counted (removed_facts there.facts route removal.lo removal.hi (goes_by removal.goes)) (with_table (state_by checks unseen) name (without_facts there route removal.lo removal.hi (goes_by removal.goes))))

  taking_passed : rows_removed (state_by checks unseen) name window condition ≡ taken_from (table_of checks unseen may.there.table)
  taking_passed = removal_passed checks unseen name window condition may.there.on may.there.route_there may.there.table may.there.table_there (removal.lo, removal.hi) may.located (goes_by removal.goes) may.goes

  pub rows_taken : (there : Table) → names.get (state_by checks unseen).tables name ≡ Some there → rows_removed (state_by checks unseen) name window condition ≡ taken_from there
  rows_taken there is = taking_passed ∙ ap taken_from (some_same _ _ _ (table_at checks unseen name may.there.table may.there.table_there) is)

  pub removal_no_change : (refusal : Refusal) → Err refusal ≡ may_change (state_by checks unseen) → rows_removed (state_by checks unseen) name window condition ≡ Err refusal
  removal_no_change refusal e = taking_passed ∙ ap (λ (r : Result (Unit {0}) Refusal). r >>= λ _. Ok (counted (removed_facts (table_of checks unseen may.there.table).facts route removal.lo removal.hi (goes_by removal.goes)) (with_table (state_by checks unseen) name (without_facts (table_of checks unseen may.there.table) route removal.lo removal.hi (goes_by removal.goes))))) (sym e)
