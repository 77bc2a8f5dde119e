use Rattle.std.proofs.Common.{inl, refl}
use Rattle.rs_machine.specs.Answered.{answer}
use Rattle.rs_machine.specs.Served.{refused}
use Rattle.rs_serve.specs.ReplyView.{reply_of}
use Rattle.rs_syntax.specs.View.{tree_of}
use Rattle.rs_csv_answers.proofs.Joining.{answers_as_csv}
use Rattle.rs_csv_answers.proofs.asking.answer_as_csv.Goals as goal

pub step-reply-requires : goal.step-reply-requires
step-reply-requires g c = record { said = record { line = c.args.line.now; asks = c.in-Ok.ensures.asks } }

pub returns-in-Ok-clause-answers : goal.returns-in-Ok-clause-answers
returns-in-Ok-clause-answers g c old is =
    let served = c.step-reply.ensures.served old is in (
      served.0,
      served.1,
      answers_as_csv _ c.args.line.now c.in-Ok.requested.session (tree_of c.in-Ok.requested.command) old served.0 c.head_of-head.result c.csv_of.result (reply_of c.step-reply.result)
          c.in-Ok.ensures.asks served.2 (c.head_of-head.ensures old is) c.csv_of.ensures,
    )

pub returns-in-Ok-clause-becomes : goal.returns-in-Ok-clause-becomes
returns-in-Ok-clause-becomes g c = c.step-reply.ensures.becomes

pub returns-in-Err-clause-becomes : goal.returns-in-Err-clause-becomes
returns-in-Err-clause-becomes g c = g.met.E.Serve.becomes_itself c.args.engine.now

pub returns-in-Err-clause-answers : goal.returns-in-Err-clause-answers
returns-in-Err-clause-answers g c old is = (
  old,
  is,
  record {
    given = answer c.in-Err._session (refused c.in-Err.refusal);
    answered = c.in-Err.ensures.refused old;
    says = inl refl;
  },
)
