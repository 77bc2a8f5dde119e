-- The text ends where the first zero is.
use Rattle.rs_value.proofs.EncodingSteps.{text_cut}
use Rattle.rs_value.proofs.kept_encoding.text_before_zeros.Goals as goal

pub returns : goal.returns
returns c said is says = (text_cut c.args.bytes.now said c.length_before_zero.result c.length_before_zero.ensures is says).0
