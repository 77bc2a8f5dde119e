use Rattle.std.proofs.Common.{◌∙◌}
use Rattle.std.proofs.lemmas.Result.{err_from_is_err_and}
use Rattle.rs_methods.specs.Position.{expression_of}
use Rattle.rs_command_checks.proofs.Outcomes.{may_ok, may_err}
use Rattle.rs_command_checks.proofs.ReferentSteps.{moved_off_route, moved_checked}
use Rattle.rs_command_checks.proofs.checks.Checks.moved_place_on.Goals as goal

pub returns-in_err-measure-clause-refused : goal.returns-in_err-measure-clause-refused
returns-in_err-measure-clause-refused c = λ unseen.
    let p = err_from_is_err_and c.from_residual.result c.from_residual.ensures.1 in
    rw (p.1, p.2) (moved_off_route c.args.self.now unseen c.args.route.now.bytes c.args.entry c.requires.there c.args.name.now.bytes (expression_of c.args.position.now) (c.requires.movable unseen) _ c.in_err-measure.ensures)

pub returns-in_err-may_change-clause-refused : goal.returns-in_err-may_change-clause-refused
returns-in_err-may_change-clause-refused c = λ unseen.
    let p = err_from_is_err_and c.from_residual-in_err-may_change.result c.from_residual-in_err-may_change.ensures.1 in
    rw (p.1, p.2) (moved_checked c.args.self.now unseen c.args.route.now.bytes c.args.entry c.requires.there c.args.name.now.bytes (expression_of c.args.position.now) (c.requires.movable unseen) c.in_ok-measure.measure c.in_ok-measure.ensures ∙ may_err c.args.self.now unseen _ _ (c.in_err-may_change.ensures.answer unseen))

pub returns-clause-accepted : goal.returns-clause-accepted
returns-clause-accepted c = λ unseen.
    moved_checked c.args.self.now unseen c.args.route.now.bytes c.args.entry c.requires.there c.args.name.now.bytes (expression_of c.args.position.now) (c.requires.movable unseen) c.in_ok-measure.measure c.in_ok-measure.ensures ∙ may_ok c.args.self.now unseen _ (c.in_ok-may_change.ensures.answer unseen)
