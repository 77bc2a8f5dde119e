use Rattle.std.proofs.Common.{sym, ◌∙◌}
use Rattle.std.proofs.lemmas.Result.{err_from_is_err_and}
use Rattle.rs_command_checks.proofs.Outcomes.{may_ok, may_err}
use Rattle.rs_command_checks.proofs.ReferentSteps.{drops_none, drops_seen_referent, drops_referent}
use Rattle.rs_command_checks.proofs.checks.Checks.check_old_referent.Goals as goal

pub returns-in_err-entry-clause-refused : goal.returns-in_err-entry-clause-refused
returns-in_err-entry-clause-refused c = λ unseen.
    let p = err_from_is_err_and c.from_residual.result c.from_residual.ensures.1 in
    rw (p.1, p.2) (drops_none c.args.self.now unseen c.args.route.now.bytes c.args.name.now.bytes _ (c.in_err-entry.ensures.refused unseen))

pub returns-then-is_referent_named-clause-refused : goal.returns-then-is_referent_named-clause-refused
returns-then-is_referent_named-clause-refused c = λ unseen.
    drops_seen_referent c.args.self.now unseen c.args.route.now.bytes c.args.name.now.bytes _ (c.in_ok-entry.ensures.found unseen) (sym c.is_referent_named.ensures ∙ c.if-is_referent_named.true)

pub returns-in_err-may_change-clause-refused : goal.returns-in_err-may_change-clause-refused
returns-in_err-may_change-clause-refused c = λ unseen.
    let p = err_from_is_err_and c.from_residual-in_err-may_change.result c.from_residual-in_err-may_change.ensures.1 in
    rw (p.1, p.2) (drops_referent c.args.self.now unseen c.args.route.now.bytes c.args.name.now.bytes _ (c.in_ok-entry.ensures.found unseen) (sym c.is_referent_named.ensures ∙ c.if-is_referent_named.false)
    ∙ may_err c.args.self.now unseen _ _ (c.in_err-may_change.ensures.answer unseen))

pub returns-clause-accepted : goal.returns-clause-accepted
returns-clause-accepted c = λ unseen.
    drops_referent c.args.self.now unseen c.args.route.now.bytes c.args.name.now.bytes _ (c.in_ok-entry.ensures.found unseen) (sym c.is_referent_named.ensures ∙ c.if-is_referent_named.false)
    ∙ may_ok c.args.self.now unseen _ (c.in_ok-may_change.ensures.answer unseen)
