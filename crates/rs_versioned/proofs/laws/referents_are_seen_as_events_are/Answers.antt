-- Both are records.
use Rattle.std.proofs.Common.{◌<◌, ℕ, sym, subst, arith}
use Rattle.rs_versioned.specs.Referents.{kept_referents}
use Rattle.rs_versioned.proofs.EventsSeen.{referent_route, referent_shown, referents_end}
use Rattle.rs_versioned.proofs.SeenAfter.{before_birth, before_end, from_birth, from_end, unseen_cleared}
use Rattle.rs_versioned.proofs.laws.referents_are_seen_as_events_are.Goals as goal

pub returns-clause-before_its_birth : goal.returns-clause-before_its_birth
returns-clause-before_its_birth c = before_birth kept_referents referent_route referent_shown

pub returns-clause-from_its_birth : goal.returns-clause-from_its_birth
returns-clause-from_its_birth c = from_birth kept_referents referent_route referent_shown

pub returns-clause-before_its_end : goal.returns-clause-before_its_end
returns-clause-before_its_end c = λ version at route one old now ended new living below before.
    before_end kept_referents referent_route referent_shown referents_end version at route one old now ended new before (subst (λ (n : ℕ). at < n) (sym living) (omega (arith, below, before)))

pub returns-clause-from_its_end : goal.returns-clause-from_its_end
returns-clause-from_its_end c = λ version at one old now gone living born below past.
    from_end kept_referents referent_route referent_shown referents_end version at one old now gone born (subst (λ (n : ℕ). at < n) (sym living) below) past

pub returns-clause-cleared : goal.returns-clause-cleared
returns-clause-cleared c = λ oldest version route. unseen_cleared kept_referents referent_route referent_shown version route oldest
