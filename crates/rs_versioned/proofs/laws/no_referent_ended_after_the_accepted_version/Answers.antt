-- Its end is none that was accepted.
use Rattle.std.proofs.Common.{◌≡◌, ◌<◌, ℕ, refl, sym, ap, ◌∙◌, arith}
use Rattle.rs_cell_versions.specs.declared.cell.TheConstants.{LIVING}
use Rattle.rs_versioned.specs.Referents.{ReferentRecord, ended_referent, kept_referents}
use Rattle.rs_versioned.proofs.EndedLater.{missing_come, missing_ended, none_ended_later}
use Rattle.rs_versioned.proofs.KeptReferents.{referents_are_kept}
use Rattle.rs_versioned.proofs.laws.no_referent_ended_after_the_accepted_version.Goals as goal

-- a living one is none that has ended
lives_apart : (version : ℕ) (one other : ReferentRecord) → other.died ≡ LIVING → version < LIVING → other ≡ ended_referent version one → ⊥
lives_apart version one other living below same = let at : other.died ≡ version = ap (λ (e : ReferentRecord). e.died) same in omega (arith, living, below, at)

-- living ones that end as one are one
one_before : (version : ℕ) (one other : ReferentRecord) → one.died ≡ LIVING → other.died ≡ LIVING → ended_referent version other ≡ ended_referent version one → one ≡ other
one_before version one other living lives same = sym (λ i. record { route = (same i).route; name = (same i).name; measure = (same i).measure; born = (same i).born; died = (lives ∙ sym living) i })

pub returns-clause-none : goal.returns-clause-none
returns-clause-none c = λ pages standing accepted version one records used holds later below.
    none_ended_later kept_referents referents_are_kept pages standing accepted version (ended_referent version one) records used holds later below refl

pub returns-clause-come : goal.returns-clause-come
returns-clause-come c = λ version one other old now more living below. missing_come other (ended_referent version one) old now more (lives_apart version one other living below)

pub returns-clause-ended : goal.returns-clause-ended
returns-clause-ended c = λ version one other old now ended living lives apart.
    missing_ended kept_referents version other (ended_referent version one) old now ended (λ same. apart (one_before version one other living lives same))
