use Rattle.std.proofs.Common.{inl, inr, sym, ◌∙◌}
use Rattle.rs_checker.specs.CheckedView.{query_of}
use Rattle.rs_refusal.specs.declared.refusal.Refusal.TheVariants as refusal
use Rattle.rs_stored_catalog.proofs.CheckedViews.{never_both, same_refusal}
use Rattle.rs_stored_catalog.proofs.views.check_query.Goals as goal

pub returns-in_default-clause-ok : goal.returns-in_default-clause-ok
returns-in_default-clause-ok c spans_on rest = (query_of c.in_default.field-0.query, (c.in_default.ensures.ok spans_on rest).is)

pub returns-clause-none : goal.returns-clause-none
returns-clause-none c e spans_on rest made = elim c.in-Err.ensures.refused [
  | inl want ↦ c.as_damage.ensures.damage (same_refusal c.as_damage.result refusal.DamagedFile e) want
  | inr refused ↦ never_both made.0 c.in-Err.refusal (sym made.1 ∙ refused spans_on rest)
]
