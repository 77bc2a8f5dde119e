use Rattle.std.proofs.lemmas.Result.{err_from_is_err_and}
use Rattle.rs_methods.specs.Position.{expression_of}
use Rattle.rs_command_checks.proofs.Outcomes.{on_ok}
use Rattle.rs_command_checks.proofs.ReferentSteps.{moves_none}
use Rattle.rs_command_checks.proofs.checks.Checks.place_of_moved_referent.Goals as goal

pub returns-in_err-entry-clause-refused : goal.returns-in_err-entry-clause-refused
returns-in_err-entry-clause-refused c = λ unseen.
    let p = err_from_is_err_and c.from_residual.result c.from_residual.ensures.1 in
    rw (p.1, p.2) (moves_none c.args.self.now unseen c.args.route.now.bytes c.args.name.now.bytes (expression_of c.args.position.now) _ (c.in_err-entry.ensures.refused unseen))

pub returns-clause-has : goal.returns-clause-has
returns-clause-has c = λ unseen. on_ok c.moved_place_on.result _ (c.in_ok-entry.ensures.has unseen)
