-- Bytes put after the header of a page.
use Rattle.std.proofs.Common.{◌≡◌, ◌≤◌, ◌+◌, ℕ, List, ◌++◌, length, take, drop, get_or, sym, ap, ◌∙◌, arith}
use Rattle.std.proofs.lemmas.List.{get_or-take, drop_at, take_at, length-take-le}
use Rattle.std.proofs.lemmas.Slice.{take-put_mid_below}
use borrow.Rule.Slice.PartMut.{put_mid}
use Rattle.rs_page.specs.Number.{number_at}
use Rattle.rs_page.proofs.Numbers.{number_at-same}

-- a number in a part of the front that stays
front_numbers : (a k n : ℕ) (old new : List ℕ) → take a new ≡ take a old → k + n ≤ a → number_at k n new ≡ number_at k n old
front_numbers a k n old new same inside =
    number_at-same k n old new (λ i lo hi. sym (get_or-take a new i 0 (omega arith)) ∙ ap (λ xs. get_or xs i 0) same ∙ get_or-take a old i 0 (omega arith))

pub put_before : (a w k n : ℕ) (old part : List ℕ) → a ≤ length old → k + n ≤ a → number_at k n (put_mid a w old part) ≡ number_at k n old
put_before a w k n old part below inside = front_numbers a k n old (put_mid a w old part) (take-put_mid_below a w old part a (omega arith) below) inside

put_rest : (a w : ℕ) (old part : List ℕ) → a ≤ length old → drop a (put_mid a w old part) ≡ part ++ drop w (drop a old)
put_rest a w old part below = drop_at (take a old) (part ++ drop w (drop a old)) a (length-take-le a old below)

pub put_there : (a w : ℕ) (old new part : List ℕ) → a ≤ length old → new ≡ part → take (length part) (drop a (put_mid a w old new)) ≡ part
put_there a w old new part below is =
    ap (take (length part)) (put_rest a w old new below) ∙ take_at new (drop w (drop a old)) (length part) (ap length is) ∙ is

pub put_after : (a w : ℕ) (old new part : List ℕ) → a ≤ length old → new ≡ part → w ≡ length part → drop (length part) (drop a (put_mid a w old new)) ≡ drop (length part) (drop a old)
put_after a w old new part below is wide =
    ap (drop (length part)) (put_rest a w old new below) ∙ drop_at new (drop w (drop a old)) (length part) (ap length is) ∙ ap (λ n. drop n (drop a old)) wide
