use Rattle.std.proofs.Common.{refl}
use Rattle.rs_machine.specs.Stream.{LINE_FEED}
use Rattle.rs_protocol.proofs.Serving.{at_feed}
use Rattle.rs_protocol.proofs.lines.end_line.Goals as goal

pub returns-clause-served : goal.returns-clause-served
returns-clause-served g c told first old before is served =
    let answered = c.answer_line-answered.ensures.served old is in (
      answered.0,
      answered.1,
      at_feed (Unit {0}) c.answer_line-answered.result c.args.kept.now.items c.clear.new.self.items c.as_slice.result.now c.args.pending.now.items c.answer_line-answered.new.pending.items told LINE_FEED first
          old answered.0 before (g.W.Write.contents c.args.writer.now)
          (g.W.Write.contents c.answer_line-answered.new.writer) refl c.as_slice.ensures.value c.clear.ensures served answered.2,
    )

pub returns-clause-becomes : goal.returns-clause-becomes
returns-clause-becomes g c = c.answer_line-answered.ensures.becomes
