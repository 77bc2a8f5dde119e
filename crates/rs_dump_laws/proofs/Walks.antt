-- Commands that put things into the state one after another.
use Rattle.std.proofs.Common.{◌≡◌, ℕ, ◌<◌, Bool, true, false, cond, not, List, [], ◌∷◌, ◌++◌, map, Option, Some, Result, Ok, Err, refl, ap, subst}
use Rattle.std.specs.Prelude.{fold, nat_le, nat_lt}
use Rattle.std.proofs.lemmas.Bool.{le-leb, lt-ltb, and_from}
use Rattle.rs_refusal.specs.declared.refusal.Refusal.{Refusal}
use Rattle.rs_refusal.specs.declared.refusal.Refusal.TheVariants.{Limit, OutsideTheRoute}
use Rattle.rs_methods.specs.Position.{absolute}
use Rattle.rs_facts.specs.Fact.{Name}
use Rattle.rs_facts.specs.Query.{RouteEnds}
use Rattle.rs_syntax.specs.Tree.{CommandTree}
use Rattle.rs_machine.specs.State.{State}
use Rattle.rs_machine.specs.Checks.{◌>>=◌, found, position_on, unless}
use Rattle.rs_machine.specs.Lawful.{IsPlaceOf}
use Rattle.rs_machine.specs.Step.{counted, may_change, outcome}
use Rattle.rs_machine.specs.declared.limits.TheConstants.{CHANGES}
use Rattle.rs_dump_laws.specs.Accepted.{Accepted}

-- ---- checks that pass

-- what is checked next, where this check passes
pub next_is : {A B : Type 0} (check : Result A Refusal) (a : A) (next : A → Result B Refusal) → check ≡ Ok a → (check >>= next) ≡ next a
next_is check a next e = ap (λ r. r >>= next) e

pub holds : (test : Bool) (refusal : Refusal) → test ≡ true → unless test refusal ≡ Ok tt
holds test refusal e = ap (λ b. unless b refusal) e

pub fails : (test : Bool) (refusal : Refusal) → test ≡ false → unless (not test) refusal ≡ Ok tt
fails test refusal e = ap (λ b. unless (not b) refusal) e

pub is_found : {X : Type 0} (o : Option X) (refusal : Refusal) (x : X) → o ≡ Some x → found o refusal ≡ Ok x
is_found o refusal x e = ap (λ z. found z refusal) e

pub is_below : (n most : ℕ) (refusal : Refusal) → n < most → unless (nat_lt n most) refusal ≡ Ok tt
is_below n most refusal less = holds (nat_lt n most) refusal (lt-ltb n most less)

pub may : (state : State) → state.changes < CHANGES → may_change state ≡ Ok tt
may state room = is_below state.changes CHANGES Limit room

-- a measure of the route lies where it says
pub lies_there : (state : State) (route : Name) (ends : RouteEnds) (k : ℕ) → IsPlaceOf k ends → position_on state route ends (absolute k) ≡ Ok k
lies_there state route ends k place =
    ap (λ b. cond b (Ok k) (Err OutsideTheRoute)) (and_from (nat_le ends.start k) (nat_le k ends.finish) (le-leb ends.start k place.0) (le-leb k ends.finish place.1))

-- ---- one after another

pub accepted_append : (old between new : State) (first second : List CommandTree) → Accepted old first between → Accepted between second new → Accepted old (first ++ second) new
accepted_append old between new [] second one two = subst (λ state. Accepted state second new) one two
accepted_append old between new (command ∷ first) second one two = (one.0, one.1, accepted_append one.0.state between new first second one.2 two)

module _ {X : Type 0} (command : X → CommandTree) (put : State → X → State) where
  -- the command is accepted, and puts the thing into the state
  abbrev pub IsTaken : State → X → Type 0
  IsTaken state x = (count : ℕ) × (outcome state 0 (command x) ≡ Ok (counted count (put state x)))

  -- each when its turn comes
  abbrev pub AreTaken : State → List X → Type 0
  AreTaken state [] = Unit {0}
  AreTaken state (x ∷ xs) = IsTaken state x × AreTaken (put state x) xs

  pub taken : (state : State) (xs : List X) → AreTaken state xs → Accepted state (map command xs) (fold put state xs)
  taken state [] are = refl
  taken state (x ∷ xs) are = (counted are.0.0 (put state x), are.0.1, taken (put state x) xs are.1)
