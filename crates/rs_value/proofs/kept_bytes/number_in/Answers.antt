use Rattle.std.proofs.Common.{rules, ◌∙◌, sym, ap, pos, ◌+ℤ◌, ◌^◌, w64}
use Rattle.std.proofs.lemmas.Int.{to_z-of_z}
use Rattle.rs_value.proofs.KeptReading.{eight_said}
use Rattle.rs_value.proofs.kept_bytes.number_in.Goals as goal

pub returns : goal.returns
returns c = eight_said c.args.bytes.now _ c.eight_bytes.result c.number_above.result c.split_at.ensures.front c.eight_bytes.type_inv c.eight_bytes.ensures c.number_above.ensures
    ∙ ap (λ n. n +ℤ pos (2 ^ 63)) (sym (to_z-of_z w64 c.number_above.result (search rules)))
