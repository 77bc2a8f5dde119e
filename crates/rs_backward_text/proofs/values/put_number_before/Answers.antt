use Rattle.std.proofs.Common.{◌≤◌, ◌<◌, ◌^◌, ℕ, length, decimal, arith}
use Rattle.std.proofs.lemmas.Fmt.{length-decimal-le}
use Rattle.rs_backward_text.proofs.values.put_number_before.Goals as goal

-- twenty digits at the most
few : (n : ℕ) → n < 2 ^ 64 → length (decimal n) ≤ 20
few n fits = length-decimal-le 20 n (omega arith) (omega (arith, fits)) fits

pub write_digits-digits-requires : goal.write_digits-digits-requires
write_digits-digits-requires c =
    (omega (arith, few c.unsigned_abs.result (omega (arith, c.unsigned_abs.ensures.bound)), c.requires.room), c.requires.inside)

pub returns-then-number-ge0-clause-some : goal.returns-then-number-ge0-clause-some
returns-then-number-ge0-clause-some c = omega (arith, few c.unsigned_abs.result (omega (arith, c.unsigned_abs.ensures.bound)), c.requires.room, c.write_digits-digits.ensures.start)

pub put_before-requires-clause-room : goal.put_before-requires-clause-room
put_before-requires-clause-room c = omega (arith, few c.unsigned_abs.result (omega (arith, c.unsigned_abs.ensures.bound)), c.requires.room, c.write_digits-digits.ensures.start)

pub returns-clause-some : goal.returns-clause-some
returns-clause-some c = omega (arith, few c.unsigned_abs.result (omega (arith, c.unsigned_abs.ensures.bound)), c.requires.room, c.write_digits-digits.ensures.start, c.put_before.ensures.begins)
