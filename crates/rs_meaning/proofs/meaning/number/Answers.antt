use Rattle.std.proofs.Common.{ℕ, ◌+◌, ◌-◌, ◌*◌, ◌<◌, ◌≤◌, suc, List, [], ◌∷◌, length, get_or, drop, ap, arith, drop-cons}
use Rattle.rs_measure.specs.FixedPoint.{number_from, number_of_digits}
use Rattle.rs_meaning.proofs.meaning.number.Goals as goal

-- further digits make a number no less
number_from-le : (n : ℕ) (digits : List ℕ) → n ≤ number_from n digits
number_from-le n [] = omega arith
number_from-le n (digit ∷ digits) = let more = number_from-le (10 * n + (digit - 48)) digits in omega arith

number_from-drop : (n i : ℕ) (bytes : List ℕ) → i < length bytes → 10 * n + (get_or bytes i 0 - 48) ≤ number_from n (drop i bytes)
number_from-drop n i bytes h =
    let more = number_from-le (10 * n + (get_or bytes i 0 - 48)) (drop (suc i) bytes) in
    omega (arith, ap (number_from n) (drop-cons bytes i 0 h))

pub returns-then-number-most : goal.returns-then-number-most
returns-then-number-most c = λ small.
    let least = number_from-drop c.loop-byte.number c.loop-byte.byte-index c.as_bytes-byte-items.result.now c.loop-byte-test.true in
    let same = ap number_of_digits c.as_bytes-byte-items.ensures.value in
    omega (arith, c.loop-byte.invariant.value, c.saturating_sub.ensures, c.from.ensures, c.if-number-most.true)
