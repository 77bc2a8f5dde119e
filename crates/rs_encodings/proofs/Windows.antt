-- The bytes of a window, after a write past its end or a step of its start.
use Rattle.std.proofs.Common.{◌≡◌, ℕ, ◌+◌, ◌-◌, ◌≤◌, List, ◌++◌, length, take, drop, slice_range, Option, Some, None, refl, sym, ap, ◌∙◌, arith, append_assoc}
use Rattle.std.proofs.lemmas.List.{append-nil, take_at, drop_at, take-append-le, drop-append-le, drop-take, drop-drop, length-take-le, length-drop}
use Rattle.std.specs.Io.KnownBytes.{Consumes, Keeps, prepend_known}
use borrow.Rule.Slice.PartMut.{put_mid, post_of}
use lib.Seq.{take-add}

pub grown : (xs ys : List ℕ) (start end k n : ℕ) → start ≤ end → end ≤ length xs → n ≤ length ys
    → slice_range (put_mid end k xs ys) start (end + n) ≡ slice_range xs start end ++ take n ys
grown xs ys start end k n ordered within fits =
    let front = length-take-le end xs within in
    let held = drop start (take end xs) in
    let len : length held ≡ end - start = omega (arith, length-drop start (take end xs)) in
    let sum : end + n - start ≡ (end - start) + n = omega arith in
    let parts : end ≡ start + (end - start) = omega arith in
    let same : held ≡ take (end - start) (drop start xs) = ap (λ j. drop start (take j xs)) parts ∙ drop-take start (end - start) xs in
    let after = ys ++ post_of end k xs in
    ap (take (end + n - start)) (drop-append-le start (take end xs) after (omega arith))
    ∙ ap (λ j. take j (held ++ after)) sum ∙ take-add (end - start) n (held ++ after)
    ∙ (rw (take_at held after _ len, drop_at held after _ len, take-append-le n ys (post_of end k xs) fits, same) refl)

pub kept : (xs ys : List ℕ) (start end k : ℕ) → start ≤ end → end ≤ length xs
    → slice_range (put_mid end k xs ys) start end ≡ slice_range xs start end
kept xs ys start end k ordered within =
    let none : end ≡ end + 0 = omega arith in
    ap (slice_range (put_mid end k xs ys) start) none ∙ grown xs ys start end k 0 ordered within (omega arith) ∙ append-nil _

pub consumed : (xs : List ℕ) (start end count : ℕ) → start + count ≤ end
    → slice_range xs (start + count) end ≡ drop count (slice_range xs start end)
consumed xs start end count inside =
    let parts : end - start ≡ count + (end - (start + count)) = omega arith in
    sym (ap (λ j. drop count (take j (drop start xs))) parts ∙ drop-take count _ (drop start xs)
    ∙ ap (take (end - (start + count))) (drop-drop count start xs))

-- bytes that moved from a reader into a window are as known as they were
pub moved : (held more : List ℕ) (a b : Option (List ℕ)) → Consumes a b more → Keeps (prepend_known held a) (prepend_known (held ++ more) b)
moved held more None b took = tt
moved held more (Some xs) None took = absurd took
moved held more (Some xs) (Some ys) took = append_assoc held more ys ∙ sym (ap (λ t. held ++ t) took)

-- and so are those of a reader that gave none
pub unmoved : (held : List ℕ) (a b : Option (List ℕ)) → Keeps a b → Keeps (prepend_known held a) (prepend_known held b)
unmoved held None b same = tt
unmoved held (Some xs) None same = absurd same
unmoved held (Some xs) (Some ys) same = ap (λ t. held ++ t) same
