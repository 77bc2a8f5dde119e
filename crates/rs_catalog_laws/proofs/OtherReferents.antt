-- What a change of a route's referents does to the state.
use Rattle.std.proofs.Common.{◌≡◌, ℕ, false, cond, nat_eq, List, Some, refl, ap}
use Rattle.std.specs.FinMap as names
use Rattle.rs_facts.specs.Fact.{Name, Names}
use Rattle.rs_facts.specs.Runs.{Stretch}
use Rattle.rs_machine.specs.Step.{with_referents}
use Rattle.rs_catalog.specs.Definitions.{RouteItem, Definitions, AreDefinitions, on_numbered, referents_from, Rest, state_from}
use Rattle.rs_catalog.specs.Referents.{at_number}
use Rattle.rs_catalog.proofs.StateLaws.{referents_from-at}
use Rattle.rs_catalog_laws.specs.Rest.{one_more}
use Rattle.rs_catalog_laws.proofs.Numbers.{number_itself}
use Rattle.rs_catalog_laws.proofs.States.{same_state}

-- the route of another number has the referents that it had
pub referents_off : (number : ℕ) (referents : ℕ → Names ℕ) (after : Names ℕ) (n : ℕ) → nat_eq n number ≡ false → at_number number after referents n ≡ referents n
unfolding at_number
referents_off number referents after n off = ap (λ b. cond b after (referents n)) off

pub referents_own : (number : ℕ) (referents : ℕ → Names ℕ) (after : Names ℕ) → at_number number after referents number ≡ after
unfolding at_number
referents_own number referents after = ap (λ b. cond b after (referents number)) (number_itself number)

-- a route that is there has the referents under its number
pub referents_there : (definitions : Definitions) (name : Name) (item : RouteItem) (referents : ℕ → Names ℕ) → names.get definitions.routes name ≡ Some item → referents_from definitions referents name ≡ referents item.number
unfolding referents_from
referents_there definitions name item referents there = ap (on_numbered names.empty referents) there

pub state_with_referents : (definitions : Definitions) (name : Name) (item : RouteItem) (after : Names ℕ) (referents : ℕ → Names ℕ) (spans : ℕ → ℕ → List Stretch) (rest : Rest)
    → AreDefinitions definitions → names.get definitions.routes name ≡ Some item
    → state_from definitions (at_number item.number after referents) spans (one_more rest) ≡ with_referents (state_from definitions referents spans rest) name after
state_with_referents definitions name item after referents spans rest are there =
    same_state _ _ refl (referents_from-at definitions referents name item after are.route_numbers there) refl refl refl refl refl refl
