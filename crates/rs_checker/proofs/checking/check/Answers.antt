use Rattle.std.proofs.Common.{inr, sym, ◌∙◌}
use Rattle.std.proofs.lemmas.Result.{err_from_is_err_and, IfOk-weaker, IfErr-weaker}
use Rattle.rs_syntax.specs.QueryView.{query_tree}
use Rattle.rs_machine.specs.Opening.{names_in, alignments_in}
use Rattle.rs_catalog.specs.Referents.{referents_on}
use Rattle.rs_checker.specs.Checks.{PassesFirst}
use Rattle.rs_checker.proofs.ConditionLaws.{or_refused}
use Rattle.rs_checker.proofs.PassLaws.{names_refused, alignments_refused, limit_refused, all_checked, nodes_refused, names_need_none, alignments_need_none}
use Rattle.rs_checker.proofs.checking.check.Goals as goal

pub returns-in_err-names_known-clause-refused : goal.returns-in_err-names_known-clause-refused
returns-in_err-names_known-clause-refused c =
    let p = err_from_is_err_and c.from_residual.result c.from_residual.ensures.1 in
    rw (p.1, p.2) (inr (names_refused c.args.catalog.now (referents_on c.args.referents.now) (query_tree c.args.query.now) c.in_err-names_known.field-0.0 (sym c.in_err-names_known.was ∙ c.names_known.ensures)))

pub returns-in_err-names_known-clause-wanting : goal.returns-in_err-names_known-clause-wanting
returns-in_err-names_known-clause-wanting c =
    let p = err_from_is_err_and c.from_residual.result c.from_residual.ensures.1 in
    rw (p.1, p.2) (λ wants. absurd (names_need_none c.args.catalog.now (names_in (query_tree c.args.query.now)) c.in_err-names_known.field-0.0 (sym c.in_err-names_known.was ∙ c.names_known.ensures) wants))

pub returns-in_err-alignments_known-clause-wanting : goal.returns-in_err-alignments_known-clause-wanting
returns-in_err-alignments_known-clause-wanting c =
    let p = err_from_is_err_and c.from_residual-in_err-alignments_known.result c.from_residual-in_err-alignments_known.ensures.1 in
    rw (p.1, p.2) (λ wants. absurd (alignments_need_none c.args.catalog.now (alignments_in (query_tree c.args.query.now)) c.in_err-alignments_known.field-0.0 (sym c.in_err-alignments_known.was ∙ c.alignments_known.ensures) wants))

pub returns-in_err-alignments_known-clause-refused : goal.returns-in_err-alignments_known-clause-refused
returns-in_err-alignments_known-clause-refused c =
    let p = err_from_is_err_and c.from_residual-in_err-alignments_known.result c.from_residual-in_err-alignments_known.ensures.1 in
    rw (p.1, p.2) (inr (alignments_refused c.args.catalog.now (referents_on c.args.referents.now) (query_tree c.args.query.now) (sym c.in_ok-names_known.was ∙ c.names_known.ensures) c.in_err-alignments_known.field-0.0 (sym c.in_err-alignments_known.was ∙ c.alignments_known.ensures)))

pub returns-then-not-fits_limits-clause-refused : goal.returns-then-not-fits_limits-clause-refused
returns-then-not-fits_limits-clause-refused c = inr (limit_refused c.args.catalog.now (referents_on c.args.referents.now) (query_tree c.args.query.now) (sym c.in_ok-names_known.was ∙ c.names_known.ensures) (sym c.in_ok-alignments_known.was ∙ c.alignments_known.ensures) (sym c.fits_limits.ensures ∙ c.if-not-fits_limits.true))

pub returns-clause-ok : goal.returns-clause-ok
returns-clause-ok c = IfOk-weaker c.nodes.result _ _ (all_checked c.args.catalog.now (referents_on c.args.referents.now) (query_tree c.args.query.now) c.views_len.result c.views_len.ensures (sym c.in_ok-names_known.was ∙ c.names_known.ensures) (sym c.in_ok-alignments_known.was ∙ c.alignments_known.ensures) (sym c.fits_limits.ensures ∙ c.if-not-fits_limits.false)) c.nodes.ensures.ok

pub returns-clause-refused : goal.returns-clause-refused
returns-clause-refused c = IfErr-weaker c.nodes.result _ _ (λ refusal. or_refused (nodes_refused c.args.catalog.now (referents_on c.args.referents.now) (query_tree c.args.query.now) c.views_len.result c.views_len.ensures (sym c.in_ok-names_known.was ∙ c.names_known.ensures) (sym c.in_ok-alignments_known.was ∙ c.alignments_known.ensures) (sym c.fits_limits.ensures ∙ c.if-not-fits_limits.false) refusal)) c.nodes.ensures.refused

pub returns-clause-wanting : goal.returns-clause-wanting
returns-clause-wanting c =
    let passes : PassesFirst c.args.catalog.now (query_tree c.args.query.now) = record {
      names = sym c.names_known.ensures ∙ c.in_ok-names_known.was;
      alignments = sym c.alignments_known.ensures ∙ c.in_ok-alignments_known.was;
      fits = sym c.fits_limits.ensures ∙ c.if-not-fits_limits.false;
    } in
    IfErr-weaker c.nodes.result _ _ (λ refusal h wants. passes) c.nodes.ensures.refused
