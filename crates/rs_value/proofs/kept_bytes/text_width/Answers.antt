use Rattle.std.proofs.Common.{not, ◌==◌, arith}
use Rattle.std.proofs.lemmas.List.Sums.{prefix_len-le-length}
use Rattle.rs_value.proofs.kept_bytes.text_width.Goals as goal

pub returns : goal.returns
returns c = omega (arith, c.min.ensures, c.length_before_zero.ensures, prefix_len-le-length (λ byte. not (byte == 0)) c.args.bytes.now)
