-- Tests of lists that a loop decides from the left.
use Rattle.std.proofs.Common.{◌≡◌, ℕ, ◌+◌, ◌<◌, ◌≤◌, Bool, true, false, ◌||◌, List, [], ◌∷◌, length, drop, get_or, sym, ap, ◌∙◌}
use Rattle.std.proofs.lemmas.List.{at_drop_more, at_drop_all}

module _ {A : Type 0} (f : List A → Bool) (p : A → List A → Bool) (opens : (x : A) (xs : List A) → f (x ∷ xs) ≡ (p x xs || f xs)) where
  pub or_next : (all : Bool) (xs : List A) (i : ℕ) (item : A) (b : Bool) → all ≡ f (drop i xs) → i < length xs → item ≡ get_or xs i item → b ≡ p item (drop (i + 1) xs)
      → all ≡ (b || f (drop (i + 1) xs))
  or_next all xs i item b e h is test =
      e ∙ at_drop_more f xs i item h ∙ ap (λ x. f (x ∷ drop (i + 1) xs)) (sym is) ∙ opens item (drop (i + 1) xs)
      ∙ ap (λ b. b || f (drop (i + 1) xs)) (sym test)

  pub or_found : (all : Bool) (xs : List A) (i : ℕ) (item : A) (b : Bool) → all ≡ f (drop i xs) → i < length xs → item ≡ get_or xs i item → b ≡ p item (drop (i + 1) xs)
      → b ≡ true → true ≡ all
  or_found all xs i item b e h is test so = sym (or_next all xs i item b e h is test ∙ ap (λ b. b || f (drop (i + 1) xs)) so)

  pub or_other : (all : Bool) (xs : List A) (i : ℕ) (item : A) (b : Bool) → all ≡ f (drop i xs) → i < length xs → item ≡ get_or xs i item → b ≡ p item (drop (i + 1) xs)
      → b ≡ false → all ≡ f (drop (i + 1) xs)
  or_other all xs i item b e h is test so = or_next all xs i item b e h is test ∙ ap (λ b. b || f (drop (i + 1) xs)) so

pub at_end : {A : Type 0} (f : List A → Bool) (all : Bool) (xs : List A) (i : ℕ) → all ≡ f (drop i xs) → length xs ≤ i → f [] ≡ all
at_end f all xs i e h = sym (e ∙ at_drop_all f xs i h)
