use Rattle.std.proofs.Common.{⊎_elim, inl, inr, sym, ◌∙◌, arith}
use Rattle.std.proofs.lemmas.Result.{err_from_is_err_and}
use Rattle.rs_syntax.specs.QueryView.{query_tree}
use Rattle.rs_command_checks.specs.States.{rest_by}
use Rattle.rs_command_checks.proofs.Outcomes.{view_unchecked, view_taken, view_too_many, view_checked, last_accepted, last_refused, or_later}
use Rattle.rs_command_checks.proofs.checks.Checks.check_new_view.Goals as goal

pub returns-in_err-check-clause-refused : goal.returns-in_err-check-clause-refused
returns-in_err-check-clause-refused c = λ unseen.
    let p = err_from_is_err_and c.from_residual.result c.from_residual.ensures.1 in
    rw (p.1, p.2) (⊎_elim (λ wanting. inl wanting) (λ off. inr (view_unchecked c.args.self.now unseen c.args.name.now.bytes (query_tree c.args.query.now) _ (off unseen.spans (rest_by c.args.self.now unseen)))) c.in_err-check.ensures.refused)

pub returns-then-has_table_or_view-clause-refused : goal.returns-then-has_table_or_view-clause-refused
returns-then-has_table_or_view-clause-refused c = λ unseen.
    inr (view_taken c.args.self.now unseen c.args.name.now.bytes (query_tree c.args.query.now) _ (c.in_ok-check.ensures.ok unseen.spans (rest_by c.args.self.now unseen)).is (sym c.if-has_table_or_view.true ∙ c.has_table_or_view.ensures))

pub returns-then-views_len-ge-VIEWS-clause-refused : goal.returns-then-views_len-ge-VIEWS-clause-refused
returns-then-views_len-ge-VIEWS-clause-refused c = λ unseen.
    inr (view_too_many c.args.self.now unseen c.args.name.now.bytes (query_tree c.args.query.now) _ (c.in_ok-check.ensures.ok unseen.spans (rest_by c.args.self.now unseen)).is (sym c.if-has_table_or_view.false ∙ c.has_table_or_view.ensures) (omega arith))

pub returns-clause-accepted : goal.returns-clause-accepted
returns-clause-accepted c = λ unseen.
    last_accepted c.args.self.now unseen _ _ c.may_change.result (c.may_change.ensures.answer unseen) (view_checked c.args.self.now unseen c.args.name.now.bytes (query_tree c.args.query.now) _ (c.in_ok-check.ensures.ok unseen.spans (rest_by c.args.self.now unseen)).is (sym c.if-has_table_or_view.false ∙ c.has_table_or_view.ensures) (omega arith))

pub returns-clause-refused : goal.returns-clause-refused
returns-clause-refused c = λ unseen.
    or_later c.may_change.result _ _ (last_refused c.args.self.now unseen _ _ c.may_change.result (c.may_change.ensures.answer unseen) (view_checked c.args.self.now unseen c.args.name.now.bytes (query_tree c.args.query.now) _ (c.in_ok-check.ensures.ok unseen.spans (rest_by c.args.self.now unseen)).is (sym c.if-has_table_or_view.false ∙ c.has_table_or_view.ensures) (omega arith)))
