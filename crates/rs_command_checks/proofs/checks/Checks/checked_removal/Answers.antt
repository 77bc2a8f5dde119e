use Rattle.std.proofs.Common.{inr, ◌∙◌}
use Rattle.std.proofs.lemmas.Result.{err_from_is_err_and}
use Rattle.rs_syntax.specs.View.{removal_tree}
use Rattle.rs_syntax.specs.QueryView.{window_tree}
use Rattle.rs_command_checks.proofs.Outcomes.{may_ok}
use Rattle.rs_command_checks.proofs.EventResults.{rows_taken, removal_no_change}
use Rattle.rs_command_checks.proofs.checks.Checks.checked_removal.Goals as goal

pub returns-in_err-removal-clause-refused : goal.returns-in_err-removal-clause-refused
returns-in_err-removal-clause-refused c = λ unseen.
    let p = err_from_is_err_and c.from_residual.result c.from_residual.ensures.1 in
    rw (p.1, p.2) (c.in_err-removal.ensures.refused unseen)

pub returns-in_err-may_change-clause-refused : goal.returns-in_err-may_change-clause-refused
returns-in_err-may_change-clause-refused c = λ unseen.
    let p = err_from_is_err_and c.from_residual-in_err-may_change.result c.from_residual-in_err-may_change.ensures.1 in
    rw (p.1, p.2) (inr (removal_no_change c.args.self.now c.args.name.now.bytes (window_tree c.args.window.now) (removal_tree c.args.condition.now) c.in_ok-removal.removal c.in_ok-removal.ensures.done unseen _ (c.in_err-may_change.ensures.answer unseen)))

pub returns-clause-accepted : goal.returns-clause-accepted
returns-clause-accepted c = λ unseen there is.
    rows_taken c.args.self.now c.args.name.now.bytes (window_tree c.args.window.now) (removal_tree c.args.condition.now) c.in_ok-removal.removal c.in_ok-removal.ensures.done unseen there is
    ∙ may_ok c.args.self.now unseen _ (c.in_ok-may_change.ensures.answer unseen)

pub returns-clause-there : goal.returns-clause-there
returns-clause-there c = c.in_ok-removal.ensures.done.there
