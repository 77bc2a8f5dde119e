-- The version sees the cell where it sees the referent.
use Rattle.std.proofs.Common.{sym, ap, ◌∙◌, not}
use Rattle.std.proofs.lemmas.Bool.{false≢true}
use Rattle.rs_versioned.specs.Referents.{kept_referents}
use Rattle.rs_versioned.proofs.KeptReferents.{referents_are_kept}
use Rattle.rs_versioned.proofs.Overlapping.{sees_record}
use Rattle.rs_versioned.proofs.meant.is_unseen_or_meant.Goals as goal

pub returns-then-not-sees : goal.returns-then-not-sees
returns-then-not-sees c = λ referent says. (
  λ _ is. absurd (false≢true (sym c.if-not-sees.true ∙ c.sees.ensures ∙ sees_record kept_referents referents_are_kept c.args.version c.args.cell.now referent says ∙ is)),
  λ _. ap not c.if-not-sees.true,
)

pub returns-else-not-sees : goal.returns-else-not-sees
returns-else-not-sees c = λ referent says. (
  λ yes _. (c.is_meant_on.ensures referent says).0 yes,
  λ so. (c.is_meant_on.ensures referent says).1
      (so (sym (sees_record kept_referents referents_are_kept c.args.version c.args.cell.now referent says) ∙ sym c.sees.ensures ∙ c.if-not-sees.false)),
)
