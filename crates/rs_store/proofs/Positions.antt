-- Where an element is among those of a list that pass a test.
use Rattle.std.proofs.Common.{◌≡◌, ◌+◌, ◌++◌, ◌∙◌, ℕ, zero, suc, Bool, true, false, cond, List, [], ◌∷◌, Some, ap, filter, length, refl, slice_get, take, arith}
use Rattle.std.proofs.lemmas.List.{length-append}
use Rattle.std.proofs.lemmas.List.Elements.{filter-append}

take_next : {X : Type 0} (xs : List X) (place : ℕ) (x : X) → slice_get xs place ≡ Some x → take (suc place) xs ≡ take place xs ++ x ∷ []
take_next [] place x there = absurd (cc)
take_next (y ∷ ys) zero x there = let same : y ≡ x = cc in ap (λ z. z ∷ []) same
take_next (y ∷ ys) (suc place) x there = ap (λ l. y ∷ l) (take_next ys place x there)

module _ {X : Type 0} (test : X → Bool) where
  -- it is after those of them that come before it
  pub filter_at : (xs : List X) (place : ℕ) (x : X) → slice_get xs place ≡ Some x → test x ≡ true → slice_get (filter test xs) (length (filter test (take place xs))) ≡ Some x
  filter_at [] place x there passes = absurd (cc)
  filter_at (y ∷ ys) zero x there passes =
      let same : y ≡ x = cc in
      ap (λ (b : Bool). slice_get (cond b (y ∷ filter test ys) (filter test ys)) 0) (ap test same ∙ passes) ∙ ap Some same
  filter_at (y ∷ ys) (suc place) x there passes = by_test (test y) (filter_at ys place x there passes) where
    by_test : (b : Bool) → slice_get (filter test ys) (length (filter test (take place ys))) ≡ Some x
        → slice_get (cond b (y ∷ filter test ys) (filter test ys)) (length (cond b (y ∷ filter test (take place ys)) (filter test (take place ys)))) ≡ Some x
    by_test true rest = rest
    by_test false rest = rest

  -- and one more or as many are among those up to it
  pub filter_count : (xs : List X) (place : ℕ) (x : X) (b : Bool) → slice_get xs place ≡ Some x → test x ≡ b → length (filter test (take (place + 1) xs)) ≡ length (filter test (take place xs)) + cond b 1 0
  filter_count xs place x b there is =
      let next : place + 1 ≡ suc place = omega arith in
      ap (λ (n : ℕ). length (filter test (take n xs))) next ∙ ap (λ (l : List X). length (filter test l)) (take_next xs place x there)
      ∙ ap (λ (l : List X). length l) (filter-append test (take place xs) (x ∷ [])) ∙ length-append (filter test (take place xs)) (filter test (x ∷ []))
      ∙ ap (λ (t : Bool). length (filter test (take place xs)) + length (cond t (x ∷ []) [])) is ∙ ap (λ (n : ℕ). length (filter test (take place xs)) + n) (one b) where
        one : (b : Bool) → length (cond b (x ∷ []) []) ≡ cond b 1 0
        one true = omega arith
        one false = refl
