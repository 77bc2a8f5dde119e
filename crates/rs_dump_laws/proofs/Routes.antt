-- The routes of a dump are accepted.
use Rattle.std.proofs.Common.{◌≡◌, ◌∙◌, ℕ, ◌+◌, ◌<◌, ◌≤◌, false, List, [], ◌∷◌, length, map, ap, subst, arith}
use Rattle.std.specs.Prelude.{fold, nat_lt}
use Rattle.std.specs.List.{AllByRecursion}
use Rattle.std.specs.FinMap as names
use Rattle.std.proofs.lemmas.Bool.{lt-ltb}
use Rattle.rs_refusal.specs.declared.refusal.Refusal.TheVariants.{EmptySpan, Limit, NameTaken}
use Rattle.rs_facts.specs.Fact.{Name, Names}
use Rattle.rs_facts.specs.Query.{RouteEnds}
use Rattle.rs_machine.specs.State.{State, has}
use Rattle.rs_machine.specs.Checks.{unless}
use Rattle.rs_machine.specs.Lawful.{IsRoute}
use Rattle.rs_machine.specs.Step.{may_change, with_route}
use Rattle.rs_machine.specs.declared.limits.TheConstants.{CHANGES, ROUTES}
use Rattle.rs_dump_laws.specs.Accepted.{Accepted}
use Rattle.rs_dump_laws.specs.Dump.{route_command}
use Rattle.rs_dump_laws.proofs.NamedThings.{AreNewNames, itself, put_all_named, room_for_first}
use Rattle.rs_dump_laws.proofs.Walks.{AreTaken, IsTaken, fails, holds, is_below, may, next_is, taken}

abbrev put_route : State → (Name × RouteEnds) → State
put_route state route = with_route state route.0 route.1.start route.1.finish

abbrev with_routes : State → Names RouteEnds → ℕ → State
with_routes state routes changes = record state { routes = routes; changes = changes }

one_taken : (state : State) (route : Name × RouteEnds) → has state.routes route.0 ≡ false → IsRoute route.0 route.1 → names.len state.routes < ROUTES → state.changes < CHANGES → IsTaken route_command put_route state route
one_taken state route new is few room = (
  0,
  next_is (unless _ NameTaken) tt _ (fails (has state.routes route.0) NameTaken new)
      ∙ next_is (unless _ EmptySpan) tt _ (holds (nat_lt route.1.start route.1.finish) EmptySpan (lt-ltb route.1.start route.1.finish is.start_below_end))
      ∙ next_is (unless _ Limit) tt _ (is_below (names.len state.routes) ROUTES Limit few)
      ∙ next_is (may_change state) tt _ (may state room),
)

all_taken : (state : State) (list : List (Name × RouteEnds)) → AreNewNames itself state.routes list → AllByRecursion (λ route. IsRoute route.0 route.1) list
    → names.len (put_all_named itself state.routes list) ≤ ROUTES → state.changes + length list ≤ CHANGES → AreTaken route_command put_route state list
all_taken state [] new are few room = tt
all_taken state (route ∷ more) new are few room = (
  one_taken state route new.0 are.0 (room_for_first itself state.routes route more ROUTES new.0 few) (omega arith),
  all_taken (put_route state route) more new.1 are.1 few (omega arith),
)

after_all : (state : State) (list : List (Name × RouteEnds)) → fold put_route state list ≡ with_routes state (put_all_named itself state.routes list) (state.changes + length list)
after_all state [] = ap (with_routes state state.routes) (let e : state.changes ≡ state.changes + 0 = omega arith in e)
after_all state (route ∷ more) =
    after_all (put_route state route) more
    ∙ ap (with_routes state (put_all_named itself state.routes (route ∷ more))) (let e : state.changes + 1 + length more ≡ state.changes + length (route ∷ more) = omega arith in e)

pub routes_accepted : (state : State) (list : List (Name × RouteEnds)) → AreNewNames itself state.routes list → AllByRecursion (λ route. IsRoute route.0 route.1) list
    → names.len (put_all_named itself state.routes list) ≤ ROUTES → state.changes + length list ≤ CHANGES
    → Accepted state (map route_command list) (with_routes state (put_all_named itself state.routes list) (state.changes + length list))
routes_accepted state list new are few room =
    subst (Accepted state (map route_command list)) (after_all state list) (taken route_command put_route state list (all_taken state list new are few room))
