-- The bytes of an entry that is written part by part.
use Rattle.std.proofs.Common.{◌≡◌, ◌≤◌, ◌+◌, ◌-◌, ℕ, List, ◌++◌, length, take, drop, get_or, sym, ap, ◌∙◌, arith}
use Rattle.std.proofs.lemmas.List.{get_or-take, get_or-drop, drop-take, drop-drop, drop_all, drop_at, append-nil, length-append, length-take, length-drop, length-take-le}
use Rattle.std.proofs.lemmas.Slice.{take-put_mid_below, take-put_mid}
use borrow.Rule.Slice.PartMut.{put_mid}
use Rattle.rs_page.specs.Number.{number_at}
use Rattle.std.proofs.lemmas.Grind.{same_number_lists}
use Rattle.rs_page.proofs.Numbers.{number_at-same, byte_at}

-- a number at the front stays where the front does
front_number : (n : ℕ) (old new : List ℕ) → take n new ≡ take n old → number_at 0 n new ≡ number_at 0 n old
front_number n old new same = number_at-same 0 n old new (λ i lo hi. sym (get_or-take n new i 0 (omega arith)) ∙ ap (λ xs. get_or xs i 0) same ∙ get_or-take n old i 0 (omega arith))

-- the number before two parts that were written
pub number_before : (a end k l : ℕ) (old first second : List ℕ) → a ≤ end → a ≤ length old → end ≤ length (put_mid a k old first)
    → number_at 0 a (put_mid end l (put_mid a k old first) second) ≡ number_at 0 a old
number_before a end k l old first second h below inside =
    front_number a old (put_mid end l (put_mid a k old first) second)
    (take-put_mid_below end l (put_mid a k old first) second a h inside ∙ take-put_mid_below a k old first a (omega arith) below)

-- the first of two parts that were written
pub first_part : (a s end k l : ℕ) (old first second : List ℕ) → a + s ≡ end → length first ≡ s → a ≤ length old → end ≤ length (put_mid a k old first)
    → take s (drop a (put_mid end l (put_mid a k old first) second)) ≡ first
first_part a s end k l old first second h size below inside =
    let whole : List ℕ = put_mid end l (put_mid a k old first) second in
    let front : take (a + s) whole ≡ take a old ++ first =
    take-put_mid_below end l (put_mid a k old first) second (a + s) (omega arith) inside ∙ take-put_mid a k old first (a + s) (omega arith) below in
    sym (drop-take a s whole) ∙ ap (drop a) front ∙ drop_at (take a old) first a (length-take-le a old below)

-- two parts are as long as they are
pub put_length : (a k : ℕ) (old first : List ℕ) → a ≤ length old → length first ≡ k → a + k ≤ length (put_mid a k old first)
put_length a k old first below size =
    omega (arith, length-append (take a old) (first ++ drop k (drop a old)), length-append first (drop k (drop a old)), length-take-le a old below, size)

-- a part that was lent is as long as it should be
pub lent_length : (a k : ℕ) (old first : List ℕ) → length first ≡ length (take k (drop a old)) → a + k ≤ length old → length first ≡ k
lent_length a k old first same inside = omega (arith, same, length-take k (drop a old), length-drop a old)

-- a number in a part of the front that stays
pub front_numbers : (a k n : ℕ) (old new : List ℕ) → take a new ≡ take a old → k + n ≤ a → number_at k n new ≡ number_at k n old
front_numbers a k n old new same inside =
    number_at-same k n old new (λ i lo hi. sym (get_or-take a new i 0 (omega arith)) ∙ ap (λ xs. get_or xs i 0) same ∙ get_or-take a old i 0 (omega arith))

-- what comes from a place on is the same where each byte is
pub same_rest : (a : ℕ) (old new : List ℕ) → length new ≡ length old → ((k n : ℕ) → a ≤ k → number_at k n new ≡ number_at k n old) → drop a new ≡ drop a old
same_rest a old new size same =
    same_number_lists (drop a new) (drop a old) (length-drop a new ∙ ap (λ n. n - a) size ∙ sym (length-drop a old))
    (λ i lt. get_or-drop a new i 0 ∙ sym (byte_at (a + i) new) ∙ same (a + i) 1 (omega arith) ∙ byte_at (a + i) old ∙ sym (get_or-drop a old i 0))

-- what was written from a place on
pub rest_put : (a k : ℕ) (old part : List ℕ) → a ≤ length old → length old ≤ a + k → drop a (put_mid a k old part) ≡ part
rest_put a k old part below whole =
    drop_at (take a old) (part ++ drop k (drop a old)) a (length-take-le a old below)
    ∙ ap (λ xs. part ++ xs) (drop-drop k a old ∙ drop_all (a + k) old whole) ∙ append-nil part
