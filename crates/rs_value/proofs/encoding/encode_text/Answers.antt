use Rattle.std.proofs.Common.{◌∙◌, ap, ◌∷◌, arith}
use Rattle.rs_value.proofs.EncodingSteps.{tagged, filled}
use Rattle.rs_value.proofs.encoding.encode_text.Goals as goal

pub returns : goal.returns
returns c = tagged 1 c.args.bytes.now c.fill_up.new.bytes (omega (arith, c.requires.room))
    ∙ ap (λ body. 1 ∷ body) (filled 1 c.args.bytes.now c.args.text.now c.fill_up.new.bytes c.as_bytes.result.now (omega (arith, c.requires.room)) c.as_bytes.ensures.value c.fill_up.ensures)
