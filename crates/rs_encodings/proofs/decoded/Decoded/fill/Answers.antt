use Rattle.rs_encodings.specs.Waiting.{items}
use Rattle.rs_encodings.proofs.Texts.{ends_left}
use Rattle.rs_encodings.proofs.decoded.Decoded.fill.Goals as goal

pub returns-clause-end : goal.returns-clause-end
returns-clause-end g c = λ none.
    let over = c.decode.ensures.some none in
    ends_left c.args.self.now.encoding c.args.self.now.form c.args.code (items c.decode.new.ready) (items c.decode.new.raw) (g.R.Read.remaining c.gather.new.reader)
    c.requires none over.0 (c.in_ok-is_last.ensures.end over.1)
