use Rattle.std.proofs.Common.{ℕ, subst, sym}
use Rattle.rs_machine.specs.Answered.{AnswersLine, answer}
use Rattle.rs_machine.specs.Served.{refused}
use Rattle.rs_syntax.specs.View.{tree_of}
use Rattle.rs_protocol.proofs.Answering.{answers_refused, answers_unreadable, request_asks}
use Rattle.rs_protocol.proofs.requests.command_in.Goals as goal

pub returns-in-Err-clause-refused : goal.returns-in-Err-clause-refused
returns-in-Err-clause-refused c machine = answers_unreadable c.args.line.now c.in-Err.refusal machine c.in-Err.ensures

pub returns-in-Ok-command_of-clause-asks : goal.returns-in-Ok-command_of-clause-asks
returns-in-Ok-command_of-clause-asks c =
    request_asks c.args.line.now c.in-Ok.request.text.now c.in-Ok.request.session c.in-Ok.request.digits (tree_of c.in-Ok-command_of.command) c.in-Ok.ensures c.in-Ok-command_of.ensures.ok

pub returns-in-Err-command_of-clause-refused : goal.returns-in-Err-command_of-clause-refused
returns-in-Err-command_of-clause-refused c machine =
    subst (λ (session : ℕ). AnswersLine machine c.args.line.now (answer session (refused c.in-Err-command_of.refusal)) machine) (sym c.number.ensures.value)
    (answers_refused c.args.line.now c.in-Ok.request.text.now c.in-Ok.request.session c.in-Ok.request.digits c.in-Err-command_of.refusal machine c.in-Ok.ensures c.in-Err-command_of.ensures.err)
