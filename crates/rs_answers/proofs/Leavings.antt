-- A source that was read stands for what it stood for, and what is in memory is the same.
use Rattle.std.proofs.Common.{◌≡◌, ℕ, sym, subst}
use Rattle.rs_facts.specs.Query.{Query}
use Rattle.rs_machine.specs.State.{State}
use Rattle.rs_catalog.specs.Definitions.{Definitions, Numbered}
use Rattle.rs_catalog.specs.Referents.{HeldReferents}
use Rattle.rs_plan.specs.declared.plan.Plan.{Plan}
use Rattle.rs_exec.specs.Leaving.{LeavesBehind}
use Rattle.rs_exec.specs.declared.source.Source as spans
use Rattle.rs_answers.specs.Plans.{IsPlanFor}
use Rattle.rs_answers.specs.Present.{IsPresent}
use Rattle.rs_answers.specs.Standing.{StandsAt}

module _ {E : Type 0} (source : spans.Ghosts E) where
  pub leaves-none : ((one : E) → source.passes one one) → (one : E) → LeavesBehind source one one
  leaves-none reflects one = record { stands = λ snapshots there. there; passes = reflects one }

  pub leaves-then : ((a b c : E) → source.passes a b → source.passes b c → source.passes a c) → (a b c : E) → LeavesBehind source a b → LeavesBehind source b c → LeavesBehind source a c
  leaves-then trans a b c first second = record {
    stands = λ snapshots there. second.stands snapshots (first.stands snapshots there);
    passes = trans a b c first.passes second.passes;
  }

  module _ (definitions : E → Definitions) (referents : E → Numbered HeldReferents)
      (definitions-stay : (old new : E) → source.passes old new → definitions new ≡ definitions old)
      (referents-stay : (old new : E) → source.passes old new → referents new ≡ referents old)
      (old new : E) (leaves : LeavesBehind source old new) where
    pub stands-later : (version : ℕ) (state : State) → StandsAt source.is definitions referents version old state → StandsAt source.is definitions referents version new state
    stands-later version state stands = record {
      snapshots = stands.snapshots;
      is = leaves.stands stands.snapshots stands.is;
      present =
          subst (λ (d : Definitions). IsPresent d (referents new) state (stands.snapshots version)) (sym (definitions-stay old new leaves.passes))
          (subst (λ (r : Numbered HeldReferents). IsPresent (definitions old) r state (stands.snapshots version)) (sym (referents-stay old new leaves.passes)) stands.present);
    }

    pub plan-later : (query : Query) (plan : Plan) → IsPlanFor (definitions old) query plan → IsPlanFor (definitions new) query plan
    plan-later query plan for = subst (λ (d : Definitions). IsPlanFor d query plan) (sym (definitions-stay old new leaves.passes)) for
