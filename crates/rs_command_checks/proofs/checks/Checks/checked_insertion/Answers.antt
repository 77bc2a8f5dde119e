use Rattle.std.proofs.Common.{inr, ◌∙◌}
use Rattle.std.proofs.lemmas.Result.{err_from_is_err_and}
use Rattle.rs_value.specs.View.{literal_row}
use Rattle.rs_syntax.specs.View.{location_tree}
use Rattle.rs_command_checks.proofs.Outcomes.{may_ok}
use Rattle.rs_command_checks.proofs.EventResults.{event_on, row_put, row_no_change}
use Rattle.rs_command_checks.proofs.checks.Checks.checked_insertion.Goals as goal

pub returns-in_err-insertion-clause-refused : goal.returns-in_err-insertion-clause-refused
returns-in_err-insertion-clause-refused c = λ unseen.
    let p = err_from_is_err_and c.from_residual.result c.from_residual.ensures.1 in
    rw (p.1, p.2) (c.in_err-insertion.ensures.refused unseen)

pub returns-in_err-may_change-clause-refused : goal.returns-in_err-may_change-clause-refused
returns-in_err-may_change-clause-refused c = λ unseen.
    let p = err_from_is_err_and c.from_residual-in_err-may_change.result c.from_residual-in_err-may_change.ensures.1 in
    rw (p.1, p.2) (inr (row_no_change c.args.self.now c.args.name.now.bytes c.args.route.now.bytes (location_tree c.args.place.now) (literal_row c.args.values.now) c.in_ok-insertion.insertion c.in_ok-insertion.ensures.done unseen _ (c.in_err-may_change.ensures.answer unseen)))

pub returns-clause-accepted : goal.returns-clause-accepted
returns-clause-accepted c = λ unseen there is.
    row_put c.args.self.now c.args.name.now.bytes c.args.route.now.bytes (location_tree c.args.place.now) (literal_row c.args.values.now) c.in_ok-insertion.insertion c.in_ok-insertion.ensures.done unseen there is
    ∙ may_ok c.args.self.now unseen _ (c.in_ok-may_change.ensures.answer unseen)

pub returns-clause-event : goal.returns-clause-event
returns-clause-event c =
    event_on c.args.self.now c.args.name.now.bytes c.args.route.now.bytes (location_tree c.args.place.now) (literal_row c.args.values.now) c.in_ok-insertion.insertion c.in_ok-insertion.ensures.done c.requires.values
