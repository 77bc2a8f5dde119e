-- Its end is none that was accepted.
use Rattle.std.proofs.Common.{◌≡◌, ◌<◌, ℕ, refl, sym, ap, ◌∙◌, arith}
use Rattle.rs_cell_versions.specs.declared.cell.TheConstants.{LIVING}
use Rattle.rs_versioned.specs.Events.{Event, ended_event, kept_events}
use Rattle.rs_versioned.proofs.EndedLater.{missing_come, missing_ended, none_ended_later}
use Rattle.rs_versioned.proofs.KeptRecords.{events_are_kept}
use Rattle.rs_versioned.proofs.laws.no_event_ended_after_the_accepted_version.Goals as goal

-- a living one is none that has ended
lives_apart : (version : ℕ) (one other : Event) → other.died ≡ LIVING → version < LIVING → other ≡ ended_event version one → ⊥
lives_apart version one other living below same = let at : other.died ≡ version = ap (λ (e : Event). e.died) same in omega (arith, living, below, at)

-- living ones that end as one are one
one_before : (version : ℕ) (one other : Event) → one.died ≡ LIVING → other.died ≡ LIVING → ended_event version other ≡ ended_event version one → one ≡ other
one_before version one other living lives same = sym (λ i. record { route = (same i).route; lo = (same i).lo; hi = (same i).hi; row = (same i).row; born = (same i).born; died = (lives ∙ sym living) i })

pub returns-clause-none : goal.returns-clause-none
returns-clause-none c = λ types pages standing accepted version one records used holds later below.
    none_ended_later (kept_events types) (events_are_kept types) pages standing accepted version (ended_event version one) records used holds later below refl

pub returns-clause-come : goal.returns-clause-come
returns-clause-come c = λ version one other old now more living below. missing_come other (ended_event version one) old now more (lives_apart version one other living below)

pub returns-clause-ended : goal.returns-clause-ended
returns-clause-ended c = λ types version one other old now ended living lives apart.
    missing_ended (kept_events types) version other (ended_event version one) old now ended (λ same. apart (one_before version one other living lives same))
