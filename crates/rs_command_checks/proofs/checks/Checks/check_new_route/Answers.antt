use Rattle.std.proofs.Common.{sym, ap, ◌∙◌, arith}
use Rattle.std.specs.Prelude.{is_some}
use Rattle.rs_command_checks.proofs.Outcomes.{route_taken, route_empty, route_too_many, route_checked, last_accepted, last_refused}
use Rattle.rs_command_checks.proofs.checks.Checks.check_new_route.Goals as goal

pub returns-then-is_some-clause-refused : goal.returns-then-is_some-clause-refused
returns-then-is_some-clause-refused c = λ unseen.
    route_taken c.args.self.now unseen c.args.name.now.bytes c.args.start c.args.finish (ap is_some (sym c.route.ensures) ∙ sym c.is_some.ensures ∙ c.if-is_some.true)

pub returns-then-thousandths-clause-refused : goal.returns-then-thousandths-clause-refused
returns-then-thousandths-clause-refused c = λ unseen.
    route_empty c.args.self.now unseen c.args.name.now.bytes c.args.start c.args.finish (ap is_some (sym c.route.ensures) ∙ sym c.is_some.ensures ∙ c.if-is_some.false) (omega arith)

pub returns-then-routes_len-ge-ROUTES-clause-refused : goal.returns-then-routes_len-ge-ROUTES-clause-refused
returns-then-routes_len-ge-ROUTES-clause-refused c = λ unseen.
    route_too_many c.args.self.now unseen c.args.name.now.bytes c.args.start c.args.finish (ap is_some (sym c.route.ensures) ∙ sym c.is_some.ensures ∙ c.if-is_some.false) (omega arith) (omega arith)

pub returns-clause-accepted : goal.returns-clause-accepted
returns-clause-accepted c = λ unseen.
    last_accepted c.args.self.now unseen _ _ c.may_change.result (c.may_change.ensures.answer unseen)
    (route_checked c.args.self.now unseen c.args.name.now.bytes c.args.start c.args.finish (ap is_some (sym c.route.ensures) ∙ sym c.is_some.ensures ∙ c.if-is_some.false) (omega arith) (omega arith))

pub returns-clause-refused : goal.returns-clause-refused
returns-clause-refused c = λ unseen.
    last_refused c.args.self.now unseen _ _ c.may_change.result (c.may_change.ensures.answer unseen)
    (route_checked c.args.self.now unseen c.args.name.now.bytes c.args.start c.args.finish (ap is_some (sym c.route.ensures) ∙ sym c.is_some.ensures ∙ c.if-is_some.false) (omega arith) (omega arith))
