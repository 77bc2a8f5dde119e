-- Positions on a route by the list of referents.
use Rattle.std.specs.Prelude.{ℕ, List, Result}
use Rattle.rs_refusal.specs.declared.refusal.Refusal.{Refusal}
use Rattle.rs_methods.specs.declared.position.Method.{Method}
use Rattle.rs_methods.specs.declared.route.Route.{Route}
use Rattle.rs_methods.specs.Position.{PositionExpression, located, expression_at}
use Rattle.rs_methods.specs.Referents.{referents_of}

-- where a position lies on the route, by the route's referents in the list
abbrev pub located_on : Route → List ((ℕ × List ℕ) × ℕ) → PositionExpression → Result ℕ Refusal
located_on route entries position = located route.start route.finish (referents_of route.number entries) position

-- how a measure of the route is expressed by a method, by the route's referents in the list
abbrev pub expressed_on : Route → List ((ℕ × List ℕ) × ℕ) → Method → ℕ → PositionExpression
expressed_on route entries method k = expression_at route.start route.finish (referents_of route.number entries) method k
