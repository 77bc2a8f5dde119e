-- Where positions, events and windows lie on a route, by the route's ends and its referents.
use Rattle.std.specs.Prelude.{ℕ, ◌+◌, nat_lt, Result, Ok}
use Rattle.std.specs.FinMap as names
use Rattle.rs_refusal.specs.declared.refusal.Refusal.{Refusal}
use Rattle.rs_refusal.specs.declared.refusal.Refusal.TheVariants.{EmptySpan}
use Rattle.rs_methods.specs.Position.{PositionExpression, located}
use Rattle.rs_facts.specs.Fact.{Names}
use Rattle.rs_facts.specs.Query.{RouteEnds}
use Rattle.rs_syntax.specs.Tree.{EventLocationTree, along, at_point, WindowTree, whole_route, part_of_route}
use Rattle.rs_machine.specs.Checks.{◌>>=◌, unless}

abbrev pub position_by : RouteEnds → Names ℕ → PositionExpression → Result ℕ Refusal
position_by ends referents position = located ends.start ends.finish (names.entries referents) position

-- the first below the second
abbrev pub span_by : RouteEnds → Names ℕ → PositionExpression → PositionExpression → Result (ℕ × ℕ) Refusal
span_by ends referents first second = do
  from ← position_by ends referents first
  to ← position_by ends referents second
  _ ← unless (nat_lt from to) EmptySpan
  Ok (from, to)

abbrev pub event_span_by : RouteEnds → Names ℕ → EventLocationTree → Result (ℕ × ℕ) Refusal
event_span_by ends referents (along from to) = span_by ends referents from to
event_span_by ends referents (at_point position) = do
  measure ← position_by ends referents position
  Ok (measure, measure + 1)

abbrev pub window_span_by : RouteEnds → Names ℕ → WindowTree → Result (ℕ × ℕ) Refusal
window_span_by ends referents (whole_route route) = Ok (ends.start, ends.finish + 1)
window_span_by ends referents (part_of_route route from to) = span_by ends referents from to
