-- The position that is printed for a measure of a route.
use Rattle.std.specs.Prelude.{ℕ}
use Rattle.std.specs.FinMap as names
use Rattle.rs_methods.specs.Position.{PositionExpression, expression_at}
use Rattle.rs_methods.specs.declared.position.Method.{Method}
use Rattle.rs_facts.specs.Fact.{Name}
use Rattle.rs_facts.specs.Query.{RouteEnds}
use Rattle.rs_machine.specs.State.{State}

-- by a method, with the referents of this state; `position_text` is its text
abbrev pub printed_expression : State → Name → RouteEnds → Method → ℕ → PositionExpression
printed_expression state route ends method k = expression_at ends.start ends.finish (names.entries (state.referents route)) method k
