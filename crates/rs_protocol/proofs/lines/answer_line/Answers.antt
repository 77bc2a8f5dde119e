use Rattle.std.proofs.Common.{inl, refl}
use Rattle.rs_machine.specs.Request.{command}
use Rattle.rs_machine.specs.Served.{refused}
use Rattle.rs_serve.specs.ReplyView.{reply_of}
use Rattle.rs_syntax.specs.View.{tree_of}
use Rattle.rs_protocol.proofs.Answering.{puts_answer}
use Rattle.rs_protocol.proofs.lines.answer_line.Goals as goal

pub step-reply-requires : goal.step-reply-requires
step-reply-requires g c = record { said = record { line = c.args.line.now; asks = c.in-Ok.ensures.asks } }

pub returns-in-Ok-clause-served : goal.returns-in-Ok-clause-served
returns-in-Ok-clause-served g c old is =
    let served = c.step-reply.ensures.served old is in (
      served.0,
      served.1,
      puts_answer (Unit {0}) c.put_reply.result c.args.line.now c.in-Ok.requested.session (reply_of c.step-reply.result) old served.0 c.args.pending.now.items c.put_reply.new.pending.items
          (g.W.Write.contents c.args.writer.now) (g.W.Write.contents c.put_reply.new.writer)
          (inl (command c.in-Ok.requested.session (tree_of c.in-Ok.requested.command), c.in-Ok.ensures.asks, (refl, served.2))) (rw (← c.number-session.ensures.value) c.put_reply.ensures),
    )

pub returns-in-Err-clause-served : goal.returns-in-Err-clause-served
returns-in-Err-clause-served g c old is = (
  old,
  is,
  puts_answer (Unit {0}) c.put_refusal.result c.args.line.now c.in-Err.session (refused c.in-Err.refusal) old old c.args.pending.now.items c.put_refusal.new.pending.items
      (g.W.Write.contents c.args.writer.now) (g.W.Write.contents c.put_refusal.new.writer) (c.in-Err.ensures.refused old) c.put_refusal.ensures,
)

pub returns-in-Err-clause-becomes : goal.returns-in-Err-clause-becomes
returns-in-Err-clause-becomes g c = g.met.E.Serve.becomes_itself c.args.engine.now

pub returns-in-Ok-clause-becomes : goal.returns-in-Ok-clause-becomes
returns-in-Ok-clause-becomes g c = c.step-reply.ensures.becomes
