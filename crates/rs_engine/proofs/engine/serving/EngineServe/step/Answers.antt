-- The command is sound, since a line says it, and the engine stays one machine.
use Rattle.rs_machine.specs.Request.{without_return}
use Rattle.rs_machine.proofs.ReadableLines.{readable_text}
use Rattle.rs_serve.specs.ReplyView.{reply_of}
use Rattle.rs_syntax.specs.View.{tree_of}
use Rattle.rs_engine.proofs.Fronts.{one_step}
use Rattle.rs_engine.proofs.engine.serving.EngineServe.step.Goals as goal

pub reply_to-requires-clause-sound : goal.reply_to-requires-clause-sound
reply_to-requires-clause-sound g c =
    let said = c.requires.said in
    c.command_of_a_line_is_sound.ensures (without_return said.line) said.asks.digits (tree_of c.args.command) (readable_text said.line said.asks.begins.is_readable) said.asks.reads

pub returns-clause-served : goal.returns-clause-served
returns-clause-served g c old is =
    let served = c.reply_to.ensures.served old is.is in
    let new = c.reply_to.new.self in (
      served.next,
      record { is = served.is; seen = c.stores_have_their_laws.ensures.state new.oldest new.store served.is.state served.is.stands },
      served.answer,
    )

pub returns-clause-becomes : goal.returns-clause-becomes
returns-clause-becomes g c =
    one_step g.D.Disk (record { session = c.args.session; command = tree_of c.args.command; reply = reply_of c.reply_to.result }) c.args.self.now c.reply_to.new.self (record {
      served = λ machine is. returns-clause-served g c machine is;
      saved = c.reply_to.ensures.saved;
      stays = c.reply_to.ensures.stays;
      within = c.limit.ensures.within;
    })
