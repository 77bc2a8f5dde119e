use Rattle.rs_value.proofs.EncodingSteps.{text_utf8}
use Rattle.rs_value.proofs.lent.text_in.Goals as goal

pub unreachable-requires : goal.unreachable-requires
unreachable-requires c = c.in-Err.ensures.cases.0 (text_utf8 c.args.bytes.now c.requires)
