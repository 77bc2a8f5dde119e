use Rattle.std.proofs.Common.{◌∙◌, ap, pos, ◌+ℤ◌, ◌^◌, ◌∷◌, w64, arith}
use Rattle.std.proofs.lemmas.Int.{to_z-of_z}
use Rattle.rs_value.proofs.EncodingSteps.{tagged}
use Rattle.rs_value.proofs.encoding.encode_number.Goals as goal

pub returns : goal.returns
returns c = (
  c.above_least-above.result,
  c.above_least-above.ensures ∙ ap (λ n. n +ℤ pos (2 ^ 63)) (to_z-of_z w64 c.args.number c.ranges.number),
  tagged 1 c.args.bytes.now c.copy_from_slice.new.self (omega (arith, c.requires.width)) ∙ ap (λ body. 1 ∷ body) (c.copy_from_slice.ensures.after ∙ c.to_be_bytes.ensures),
)
