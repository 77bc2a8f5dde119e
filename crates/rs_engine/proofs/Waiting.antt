-- Where a route or a table is dropped, no cursor is open.
use Rattle.std.proofs.Common.{◌≡◌, ◌||◌, Bool, true, false, not, Result, Ok, Err, refl}
use Rattle.rs_facts.specs.Fact.{Name}
use Rattle.rs_facts.specs.Query.{RouteEnds, Table}
use Rattle.rs_machine.specs.Checks.{◌>>=◌, route_named, table_named, unless}
use Rattle.rs_machine.specs.Opening.{names_query, names_route, some_piece_on, some_view}
use Rattle.rs_machine.specs.State.{State, some_cursor}
use Rattle.rs_machine.specs.Step.{Effect, counted, has_fact_on, may_change, route_dropped, some_table, table_dropped, without_route, without_table}
use Rattle.rs_refusal.specs.declared.refusal.Refusal.{Refusal}
use Rattle.rs_refusal.specs.declared.refusal.Refusal.TheVariants.{InUse}

after : (free waits : Bool) (rest : Result Effect Refusal) (effect : Effect) → (unless free InUse >>= λ _. unless (not waits) InUse >>= λ _. rest) ≡ Ok effect → waits ≡ false
after false waits rest effect accepted = cc
after true true rest effect accepted = cc
after true false rest effect accepted = refl

nobody : {X : Type 0} (there : Result X Refusal) (free : X → Bool) (waits : Bool) (rest : Result Effect Refusal) (effect : Effect)
    → (there >>= λ x. unless (free x) InUse >>= λ _. unless (not waits) InUse >>= λ _. rest) ≡ Ok effect → waits ≡ false
nobody (Ok x) free waits rest effect accepted = after (free x) waits rest effect accepted
nobody (Err why) free waits rest effect accepted = cc

pub none_waits_for_route : (state : State) (name : Name) (effect : Effect) → route_dropped state name ≡ Ok effect → some_cursor state.cursors ≡ false
none_waits_for_route state name effect accepted =
    nobody (route_named state name) (λ (ends : RouteEnds). not (some_table state (has_fact_on name ends) || some_piece_on state name || some_view state (names_route name))) (some_cursor state.cursors)
    (may_change state >>= λ _. Ok (counted 0 (without_route state name))) effect accepted

pub none_waits_for_table : (state : State) (name : Name) (effect : Effect) → table_dropped state name ≡ Ok effect → some_cursor state.cursors ≡ false
none_waits_for_table state name effect accepted =
    nobody (table_named state name) (λ (table : Table). not (some_view state (names_query name))) (some_cursor state.cursors)
    (may_change state >>= λ _. Ok (counted 0 (without_table state name))) effect accepted
