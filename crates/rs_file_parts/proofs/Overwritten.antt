-- Bytes that are put in the place of others, in a list of items of one width.
use Rattle.std.proofs.Common.{◌≡◌, ◌<◌, ◌≤◌, ◌+◌, ◌*◌, ℕ, zero, suc, List, [], ◌∷◌, ◌++◌, length, set, take, drop, refl, sym, ap, ◌∙◌, arith, length-append}
use Rattle.std.proofs.lemmas.List.{append_assoc, drop-append-le, drop-drop, drop_at, length-drop, length-take-le, take-append-drop, take-append-le}
use Rattle.std.specs.Int.{bytes_high_first}
use borrow.Rule.Slice.PartMut.{put_mid}
use Rattle.rs_bytes.specs.Codes.{Code, SaysBoth, SaysEach, SaysNumber}
use Rattle.rs_file_parts.specs.Slots.{with_bytes}

-- ---- bytes among others

take_right : (n : ℕ) (xs ys : List ℕ) → take (length xs + n) (xs ++ ys) ≡ xs ++ take n ys
take_right n [] ys = ap (λ k. take k ys) (omega arith)
take_right n (x ∷ xs) ys =
    let more : length (x ∷ xs) + n ≡ suc (length xs + n) = omega arith in
    ap (λ k. take k (x ∷ (xs ++ ys))) more ∙ ap (λ zs. x ∷ zs) (take_right n xs ys)

drop_right : (n : ℕ) (xs ys : List ℕ) → drop (length xs + n) (xs ++ ys) ≡ drop n ys
drop_right n [] ys = ap (λ k. drop k ys) (omega arith)
drop_right n (x ∷ xs) ys =
    let more : length (x ∷ xs) + n ≡ suc (length xs + n) = omega arith in
    ap (λ k. drop k (x ∷ (xs ++ ys))) more ∙ drop_right n xs ys

-- in the first of two parts
pub with_left : (at : ℕ) (part xs ys : List ℕ) → at + length part ≤ length xs → with_bytes at part (xs ++ ys) ≡ with_bytes at part xs ++ ys
unfolding with_bytes
with_left at part xs ys inside =
    ap (λ l. l ++ (part ++ drop (at + length part) (xs ++ ys))) (take-append-le at xs ys (omega (arith, inside)))
    ∙ ap (λ l. take at xs ++ (part ++ l)) (drop-append-le (at + length part) xs ys inside)
    ∙ ap (λ l. take at xs ++ l) (sym (append_assoc part (drop (at + length part) xs) ys))
    ∙ sym (append_assoc (take at xs) (part ++ drop (at + length part) xs) ys)

-- in the second
pub with_right : (at n : ℕ) (part xs ys : List ℕ) → at ≡ length xs + n → with_bytes at part (xs ++ ys) ≡ xs ++ with_bytes n part ys
unfolding with_bytes
with_right at n part xs ys is =
    let far : at + length part ≡ length xs + (n + length part) = omega (arith, is) in
    ap (λ k. take k (xs ++ ys) ++ (part ++ drop (at + length part) (xs ++ ys))) is
    ∙ ap (λ l. l ++ (part ++ drop (at + length part) (xs ++ ys))) (take_right n xs ys)
    ∙ ap (λ k. (xs ++ take n ys) ++ (part ++ drop k (xs ++ ys))) far
    ∙ ap (λ l. (xs ++ take n ys) ++ (part ++ l)) (drop_right (n + length part) xs ys)
    ∙ append_assoc xs (take n ys) (part ++ drop (n + length part) ys)

-- in the place of all
pub with_all : (part bytes : List ℕ) → length part ≡ length bytes → with_bytes 0 part bytes ≡ part
unfolding with_bytes
with_all part bytes same =
    ap (λ l. part ++ l) (ap (λ k. drop k bytes) (omega (arith, same)) ∙ all bytes) ∙ none part where
      all : (xs : List ℕ) → drop (length xs) xs ≡ []
      all [] = refl
      all (x ∷ xs) = all xs

      none : (xs : List ℕ) → xs ++ [] ≡ xs
      none [] = refl
      none (x ∷ xs) = ap (λ ys. x ∷ ys) (none xs)

-- in the place of the first of two
pub with_first : (part xs ys : List ℕ) → length part ≡ length xs → with_bytes 0 part (xs ++ ys) ≡ part ++ ys
with_first part xs ys same = with_left 0 part xs ys (omega (arith, same)) ∙ ap (λ l. l ++ ys) (with_all part xs same)

-- one part after another
pub with_next : (at next : ℕ) (one other bytes : List ℕ) → next ≡ at + length one → next ≤ length bytes
    → with_bytes next other (with_bytes at one bytes) ≡ with_bytes at (one ++ other) bytes
unfolding with_bytes
with_next at next one other bytes is inside =
    let front : List ℕ = take at bytes ++ one in
    let long : length front ≡ next = length-append (take at bytes) one ∙ omega (arith, length-take-le at bytes (omega (arith, is, inside)), is) in
    let rest : List ℕ = drop (at + length one) bytes in
    let far : at + length one + length other ≡ at + length (one ++ other) = omega (arith, length-append one other) in
    ap (λ l. with_bytes next other l) (sym (append_assoc (take at bytes) one rest))
    ∙ with_right next 0 other front rest (omega (arith, long))
    ∙ append_assoc (take at bytes) one (other ++ drop (0 + length other) rest)
    ∙ ap (λ l. take at bytes ++ l) (sym (append_assoc one other (drop (0 + length other) rest)))
    ∙ ap (λ l. take at bytes ++ ((one ++ other) ++ l)) (ap (λ k. drop k rest) (omega arith) ∙ drop-drop (length other) (at + length one) bytes ∙ ap (λ k. drop k bytes) far)

-- as many bytes as before
pub with_long : (at : ℕ) (part bytes : List ℕ) → at + length part ≤ length bytes → length (with_bytes at part bytes) ≡ length bytes
unfolding with_bytes
with_long at part bytes inside =
    let rest : List ℕ = drop (at + length part) bytes in
    omega (arith, length-append (take at bytes) (part ++ rest), length-append part rest, length-take-le at bytes (omega (arith, inside)), length-drop (at + length part) bytes, inside)

-- the bytes before them
pub with_front : (at n : ℕ) (part bytes : List ℕ) → n ≤ at → at ≤ length bytes → take n (with_bytes at part bytes) ≡ take n bytes
unfolding with_bytes
with_front at n part bytes before inside =
    let rest : List ℕ = part ++ drop (at + length part) bytes in
    take-append-le n (take at bytes) rest (omega (arith, length-take-le at bytes inside, before))
    ∙ sym (take-append-le n (take at bytes) (drop at bytes) (omega (arith, length-take-le at bytes inside, before)))
    ∙ ap (take n) (take-append-drop at bytes)

-- and those after a place before them
pub with_back : (at n : ℕ) (part bytes : List ℕ) → n ≤ length bytes → drop n (with_bytes (n + at) part bytes) ≡ with_bytes at part (drop n bytes)
with_back at n part bytes inside =
    let long : length (take n bytes) ≡ n = length-take-le n bytes inside in
    ap (λ l. drop n (with_bytes (n + at) part l)) (sym (take-append-drop n bytes))
    ∙ ap (drop n) (with_right (n + at) at part (take n bytes) (drop n bytes) (omega (arith, long)))
    ∙ drop_at (take n bytes) (with_bytes at part (drop n bytes)) n long

-- ---- what the bytes say

abbrev pub Wide : {A : Type 0} → Code A → ℕ → Type 0
Wide {A = A} says width = (bytes : List ℕ) (x : A) → says bytes x → length bytes ≡ width

pub wide_number : (k : ℕ) → Wide (SaysNumber k) k
wide_number k bytes x says = ap length says.1 ∙ high k x where
  high : (k x : ℕ) → length (bytes_high_first k x) ≡ k
  high zero x = refl
  high (suc k) x = ap suc (high k x)

pub wide_both : {A B : Type 0} (says : Code A) (tells : Code B) (n m : ℕ) → Wide says n → Wide tells m → Wide (SaysBoth says tells) (n + m)
wide_both says tells n m one other bytes x (first, rest, is, a, b) = omega (arith, ap length is, length-append first rest, one first x.0 a, other rest x.1 b)

pub wide_each : {A : Type 0} (says : Code A) (k : ℕ) → Wide says k → (bytes : List ℕ) (xs : List A) → SaysEach says bytes xs → length bytes ≡ length xs * k
wide_each says k fixed bytes [] each = ap length each ∙ omega arith
wide_each says k fixed bytes (x ∷ xs) (first, rest, is, a, b) =
    let front = fixed first x a in
    let more = wide_each says k fixed rest xs b in
    let whole : length bytes ≡ length first + length rest = ap length is ∙ length-append first rest in
    let step : k + length xs * k ≡ suc (length xs) * k = omega arith in
    omega (arith, front, more, whole, step)

-- one item of a list is another
pub each_put : {A : Type 0} (says : Code A) (width : ℕ) → Wide says width → (bytes : List ℕ) (xs : List A) (k : ℕ) (part : List ℕ) (x : A) → k < length xs
    → SaysEach says bytes xs → says part x → SaysEach says (with_bytes (k * width) part bytes) (set xs k x)
each_put says width fixed bytes [] k part x inside each said = absurd (omega (arith, inside))
each_put says width fixed bytes (y ∷ ys) zero part x inside (first, rest, is, a, b) said =
    let none : 0 * width ≡ 0 = omega arith in
    (part, rest, ap (with_bytes (0 * width) part) is ∙ ap (λ n. with_bytes n part (first ++ rest)) none ∙ with_first part first rest (fixed part x said ∙ sym (fixed first y a)), said, b)
each_put says width fixed bytes (y ∷ ys) (suc k) part x inside (first, rest, is, a, b) said =
    let far : suc k * width ≡ length first + k * width = omega (arith, fixed first y a) in (
      first,
      with_bytes (k * width) part rest,
      ap (with_bytes (suc k * width) part) is ∙ with_right (suc k * width) (k * width) part first rest far,
      a,
      each_put says width fixed rest ys k part x (omega (arith, inside)) b said,
    )

-- the first of two values is another
pub first_put : {A B : Type 0} (says : Code A) (tells : Code B) (at : ℕ) (part bytes : List ℕ) (x : A) (y : B) (both : SaysBoth says tells bytes (x, y)) (z : A)
    → at + length part ≤ length both.0 → says (with_bytes at part both.0) z → SaysBoth says tells (with_bytes at part bytes) (z, y)
first_put says tells at part bytes x y (first, rest, is, a, b) z inside said =
    (with_bytes at part first, rest, ap (with_bytes at part) is ∙ with_left at part first rest inside, said, b)

-- the second is
pub rest_put : {A B : Type 0} (says : Code A) (tells : Code B) (at n : ℕ) (part bytes : List ℕ) (x : A) (y : B) (both : SaysBoth says tells bytes (x, y)) (z : B)
    → at ≡ length both.0 + n → tells (with_bytes n part both.1) z → SaysBoth says tells (with_bytes at part bytes) (x, z)
rest_put says tells at n part bytes x y (first, rest, is, a, b) z far said =
    (first, with_bytes n part rest, ap (with_bytes at part) is ∙ with_right at n part first rest far, a, said)

-- a part of a slice that was written over
pub put_is : (at n : ℕ) (old new part : List ℕ) → new ≡ part → n ≡ length part → put_mid at n old new ≡ with_bytes at part old
unfolding with_bytes
put_is at n old new part is wide =
    ap (λ l. take at old ++ (l ++ drop n (drop at old))) is
    ∙ ap (λ l. take at old ++ (part ++ l)) (drop-drop n at old ∙ ap (λ k. drop (at + k) old) wide)
