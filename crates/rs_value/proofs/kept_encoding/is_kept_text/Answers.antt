-- Printable ASCII is a text.
use Rattle.std.proofs.Common.{rules, sym}
use Rattle.rs_value.proofs.EncodingSteps.{plain_text}
use Rattle.rs_value.proofs.kept_encoding.is_kept_text.Goals as goal

pub returns-then-are_plain : goal.returns-then-are_plain
returns-then-are_plain c = (λ _. (plain_text c.args.bytes.now (sym c.if-are_plain.ensures), c.if-bytes-le-TEXT_BYTES.true), λ _. search rules)
