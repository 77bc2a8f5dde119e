use Rattle.std.proofs.Common.{ap, ◌∙◌, ◌++◌}
use Rattle.rs_bytes.proofs.Reading.{utf8_written}
use Rattle.rs_bytes.proofs.texts.write_text.Goals as goal

pub returns : goal.returns
returns c =
    utf8_written c.args.bytes.now.items c.args.text.now c.extend_from_slice.new.self.items
    (c.in_ok-extend_from_slice.ensures.items ∙ ap (λ text. c.args.bytes.now.items ++ text) c.as_bytes.ensures.value) c.utf8.text
