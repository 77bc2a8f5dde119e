-- What is looked at and changed of a route's referents.
use Rattle.std.specs.Prelude.{◌≡◌, ℕ, not, Result, Ok, Err}
use Rattle.std.specs.FinMap as names
use Rattle.rs_refusal.specs.declared.refusal.Refusal.{Refusal}
use Rattle.rs_refusal.specs.declared.refusal.Refusal.TheVariants.{InUse, NoSuchReferent}
use Rattle.rs_methods.specs.Position.{PositionExpression, start_name}
use Rattle.rs_facts.specs.Fact.{Name}
use Rattle.rs_facts.specs.Insert.{same_name}
use Rattle.rs_facts.specs.Query.{RouteEnds}
use Rattle.rs_machine.specs.State.{State}
use Rattle.rs_machine.specs.Checks.{◌>>=◌, unless, route_named, has_referent}
use Rattle.rs_machine.specs.Step.{counted, referent_defined, referent_dropped, referent_moved, with_referents}
use Rattle.rs_command_checks.specs.States.{Unseen, state_by}
use Rattle.rs_command_checks.specs.declared.checks.Checks.{Checks}

-- the route of a referent that may be moved or dropped: the referent is there and is not START
abbrev pub route_of_referent : State → Name → Name → Result RouteEnds Refusal
route_of_referent state route name = do
  ends ← route_named state route
  _ ← unless (has_referent state route name) NoSuchReferent
  _ ← unless (not (same_name start_name name)) InUse
  Ok ends

-- one more change: a referent of a route stands at a measure
abbrev pub with_referent : State → Name → Name → ℕ → State
with_referent state route name measure = with_referents state route (names.insert (state.referents route) name measure)

-- one more change: a referent of a route goes
abbrev pub without_referent : State → Name → Name → State
without_referent state route name = with_referents state route (names.remove (state.referents route) name)

-- ---- what the machine answers in the state that is looked at

-- it defines the referent, at this measure
abbrev pub DefinesReferent : Checks → Unseen → Name → Name → PositionExpression → ℕ → Type 0
DefinesReferent checks unseen route name position =
    λ measure. referent_defined (state_by checks unseen) route name position ≡ Ok (counted 0 (with_referent (state_by checks unseen) route name measure))

abbrev pub RefusesToDefineReferent : Checks → Unseen → Name → Name → PositionExpression → Refusal → Type 0
RefusesToDefineReferent checks unseen route name position = λ refusal. referent_defined (state_by checks unseen) route name position ≡ Err refusal

-- it moves the referent to this measure
abbrev pub MovesReferent : Checks → Unseen → Name → Name → PositionExpression → ℕ → Type 0
MovesReferent checks unseen route name position =
    λ measure. referent_moved (state_by checks unseen) route name position ≡ Ok (counted 0 (with_referent (state_by checks unseen) route name measure))

abbrev pub RefusesToMoveReferent : Checks → Unseen → Name → Name → PositionExpression → Refusal → Type 0
RefusesToMoveReferent checks unseen route name position = λ refusal. referent_moved (state_by checks unseen) route name position ≡ Err refusal

-- it drops the referent
abbrev pub DropsReferent : Checks → Unseen → Name → Name → Type 0
DropsReferent checks unseen route name = referent_dropped (state_by checks unseen) route name ≡ Ok (counted 0 (without_referent (state_by checks unseen) route name))

abbrev pub RefusesToDropReferent : Checks → Unseen → Name → Name → Refusal → Type 0
RefusesToDropReferent checks unseen route name = λ refusal. referent_dropped (state_by checks unseen) route name ≡ Err refusal
