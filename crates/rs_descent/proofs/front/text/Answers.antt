use Rattle.rs_descent.proofs.FrontLaws.{none-lacks, other-lacks, front-shorter, front-found, text-spelled}
use Rattle.rs_descent.proofs.front.text.Goals as goal

pub returns-in_err-first-clause-found : goal.returns-in_err-first-clause-found
returns-in_err-first-clause-found c = rw c.from_residual.ensures (none-lacks c.args.kind c.args.tokens.now c.in_err-first.ensures.cases)

pub returns-in_err-first-clause-kind : goal.returns-in_err-first-clause-kind
returns-in_err-first-clause-kind c = rw c.from_residual.ensures tt

pub returns-in_err-first-clause-spelled : goal.returns-in_err-first-clause-spelled
returns-in_err-first-clause-spelled c = rw c.from_residual.ensures tt

pub returns-in_err-first-clause-shorter : goal.returns-in_err-first-clause-shorter
returns-in_err-first-clause-shorter c = rw c.from_residual.ensures tt

pub returns-then-is_kind-clause-found : goal.returns-then-is_kind-clause-found
returns-then-is_kind-clause-found c = front-found c.args.kind c.args.tokens.now c.in_ok-first.rest.now c.in_ok-first.first.now c.in_ok-first.ensures.cases.0 (c.is_kind.ensures.same c.if-is_kind.true)

pub returns-then-is_kind-clause-spelled : goal.returns-then-is_kind-clause-spelled
returns-then-is_kind-clause-spelled c = text-spelled c.args.kind c.args.tokens.now c.in_ok-first.rest.now c.in_ok-first.first.now c.in_ok-first.ensures.cases.0 (c.is_kind.ensures.same c.if-is_kind.true) c.requires

pub returns-then-is_kind-clause-shorter : goal.returns-then-is_kind-clause-shorter
returns-then-is_kind-clause-shorter c = front-shorter c.args.kind c.args.tokens.now c.in_ok-first.rest.now c.in_ok-first.first.now c.in_ok-first.ensures.cases.0

pub returns-then-is_kind-clause-kind : goal.returns-then-is_kind-clause-kind
returns-then-is_kind-clause-kind c = c.is_kind.ensures.same c.if-is_kind.true

pub returns-else-is_kind-clause-found : goal.returns-else-is_kind-clause-found
returns-else-is_kind-clause-found c = other-lacks c.args.kind c.args.tokens.now c.in_ok-first.rest.now c.in_ok-first.first.now c.in_ok-first.ensures.cases.0 (c.is_kind.ensures.other c.if-is_kind.false)
