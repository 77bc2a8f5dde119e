-- What a test keeps of a list.
use Rattle.std.proofs.Common.{◌≡◌, ◌≤◌, ◌+◌, ℕ, zero, suc, Bool, true, false, cond, Some, List, [], ◌∷◌, ◌++◌, filter, length, map, slice_get, take, refl, sym, ap, ◌∙◌, subst, arith}
use Rattle.std.proofs.lemmas.List.{append-nil}
use Rattle.std.proofs.lemmas.List.Elements.{filter-append}
use Rattle.std.specs.List.{AllByRecursion, AllZip}
use Rattle.std.specs.Prelude.{◌≢◌}
use Rattle.rs_facts.specs.Fact.{AreDistinct}
use Rattle.rs_tree.proofs.Lists.{take_next}
use Rattle.rs_cell_versions.proofs.Joins.{all_push}

module _ {X : Type 0} where
  -- what holds of those that pass
  pub all_passing : (A B : X → Type 0) (p : X → Bool) → ((x : X) → p x ≡ true → A x → B x) → (xs : List X) → AllByRecursion A xs → AllByRecursion B (filter p xs)
  all_passing A B p f [] all = tt
  all_passing A B p f (x ∷ xs) all = by_test (p x) refl (all_passing A B p f xs all.1) where
    by_test : (b : Bool) → p x ≡ b → AllByRecursion B (filter p xs) → AllByRecursion B (cond b (x ∷ filter p xs) (filter p xs))
    by_test true is rest = (f x is all.0, rest)
    by_test false is rest = rest

  pub all_weaker : (A B : X → Type 0) → ((x : X) → A x → B x) → (xs : List X) → AllByRecursion A xs → AllByRecursion B xs
  all_weaker A B f [] all = tt
  all_weaker A B f (x ∷ xs) all = (f x all.0, all_weaker A B f xs all.1)

  pub all_mapped : (f : X → List ℕ) (P : List ℕ → Type 0) (xs : List X) → AllByRecursion (λ x. P (f x)) xs → AllByRecursion P (map f xs)
  all_mapped f P [] all = tt
  all_mapped f P (x ∷ xs) all = (all.0, all_mapped f P xs all.1)

  -- those that all pass stay
  pub all_pass : (p : X → Bool) (xs : List X) → AllByRecursion (λ x. p x ≡ true) xs → filter p xs ≡ xs
  all_pass p [] all = refl
  all_pass p (x ∷ xs) all = rw all.0 (ap (λ ys. x ∷ ys) (all_pass p xs all.1))

  pub no_longer : (p : X → Bool) (xs : List X) → length (filter p xs) ≤ length xs
  no_longer p [] = omega arith
  no_longer p (x ∷ xs) = by_test (p x) (no_longer p xs) where
    by_test : (b : Bool) → length (filter p xs) ≤ length xs → length (cond b (x ∷ filter p xs) (filter p xs)) ≤ suc (length xs)
    by_test true rest = omega (arith, rest)
    by_test false rest = omega (arith, rest)

  -- distinct names stay so
  others_kept : (f : X → List ℕ) (p : X → Bool) (name : List ℕ) (xs : List X) → AllByRecursion (λ other. name ≢ other) (map f xs) → AllByRecursion (λ other. name ≢ other) (map f (filter p xs))
  others_kept f p name [] all = tt
  others_kept f p name (x ∷ xs) all = by_test (p x) (others_kept f p name xs all.1) where
    by_test : (b : Bool) → AllByRecursion (λ other. name ≢ other) (map f (filter p xs)) → AllByRecursion (λ other. name ≢ other) (map f (cond b (x ∷ filter p xs) (filter p xs)))
    by_test true rest = (all.0, rest)
    by_test false rest = rest

  pub distinct_kept : (f : X → List ℕ) (p : X → Bool) (xs : List X) → AreDistinct (map f xs) → AreDistinct (map f (filter p xs))
  distinct_kept f p [] all = tt
  distinct_kept f p (x ∷ xs) all = by_test (p x) (distinct_kept f p xs all.1) where
    by_test : (b : Bool) → AreDistinct (map f (filter p xs)) → AreDistinct (map f (cond b (x ∷ filter p xs) (filter p xs)))
    by_test true rest = (others_kept f p (f x) xs all.0, rest)
    by_test false rest = rest

  -- the names of pairs of names and other things
  pub first_ones : (f : X → List ℕ) (g : X → ℕ) (xs : List X) → map (λ (one : List ℕ × ℕ). one.0) (map (λ x. (f x, g x)) xs) ≡ map f xs
  first_ones f g [] = refl
  first_ones f g (x ∷ xs) = ap (λ names. f x ∷ names) (first_ones f g xs)

  pub as_many_pairs : (f : X → List ℕ) (g : X → ℕ) (xs : List X) → length {A = List ℕ × ℕ} (map (λ x. (f x, g x)) xs) ≡ length xs
  as_many_pairs f g [] = refl
  as_many_pairs f g (x ∷ xs) = ap suc (as_many_pairs f g xs)

  -- one more of a list, and what passes of it
  pub kept_next : (p : X → Bool) (xs : List X) (k : ℕ) (x : X) (b : Bool) → slice_get xs k ≡ Some x → p x ≡ b → filter p (take (k + 1) xs) ≡ filter p (take k xs) ++ cond b (x ∷ []) []
  kept_next p xs k x b there is =
      let next : k + 1 ≡ suc k = omega arith in
      ap (λ (n : ℕ). filter p (take n xs)) next ∙ ap (filter p) (take_next xs k x there) ∙ filter-append p (take k xs) (x ∷ [])
      ∙ ap (λ t. filter p (take k xs) ++ cond t (x ∷ []) []) is

  pub all_next : (P : X → Type 0) (p : X → Bool) (xs : List X) (k : ℕ) (x : X) → slice_get xs k ≡ Some x → AllByRecursion P (filter p (take k xs)) → (p x ≡ true → P x)
      → AllByRecursion P (filter p (take (k + 1) xs))
  all_next P p xs k x there all one = by_test (p x) refl where
    by_test : (b : Bool) → p x ≡ b → AllByRecursion P (filter p (take (k + 1) xs))
    by_test true is = subst (AllByRecursion P) (sym (kept_next p xs k x true there is)) (all_push P (filter p (take k xs)) x all (one is))
    by_test false is = subst (AllByRecursion P) (sym (kept_next p xs k x false there is ∙ append-nil (filter p (take k xs)))) all

  pub passing_at : (P : X → Type 0) (p : X → Bool) (xs : List X) (k : ℕ) (x : X) → AllByRecursion P (filter p xs) → slice_get xs k ≡ Some x → p x ≡ true → P x
  passing_at P p [] k x all there is = absurd (cc)
  passing_at P p (y ∷ ys) zero x all there is =
      let same : y ≡ x = cc in
      subst P same (subst (λ (b : Bool). AllByRecursion P (cond b (y ∷ filter p ys) (filter p ys))) (ap p same ∙ is) all).0
  passing_at P p (y ∷ ys) (suc k) x all there is = passing_at P p ys k x (rest (p y) all) there is where
    rest : (b : Bool) → AllByRecursion P (cond b (y ∷ filter p ys) (filter p ys)) → AllByRecursion P (filter p ys)
    rest true these = these.1
    rest false these = these

  -- the names before one that passes, and those after it
  pub names_split : (f : X → List ℕ) (p : X → Bool) (xs : List X) (k : ℕ) (x : X) → slice_get xs k ≡ Some x → p x ≡ true
      → (rest : List (List ℕ)) × (map f (filter p xs) ≡ map f (filter p (take k xs)) ++ f x ∷ rest)
  names_split f p [] k x there is = absurd (cc)
  names_split f p (y ∷ ys) zero x there is =
      let same : y ≡ x = cc in
      (map f (filter p ys), ap (λ b. map f (cond b (y ∷ filter p ys) (filter p ys))) (ap p same ∙ is) ∙ ap (λ z. f z ∷ map f (filter p ys)) same)
  names_split f p (y ∷ ys) (suc k) x there is = by_test (p y) (names_split f p ys k x there is) where
    by_test : (b : Bool) → (rest : List (List ℕ)) × (map f (filter p ys) ≡ map f (filter p (take k ys)) ++ f x ∷ rest)
        → (rest : List (List ℕ)) × (map f (cond b (y ∷ filter p ys) (filter p ys)) ≡ map f (cond b (y ∷ filter p (take k ys)) (filter p (take k ys))) ++ f x ∷ rest)
    by_test true these = (these.0, ap (λ names. f y ∷ names) these.1)
    by_test false these = these

  pub mapped_next : (f : X → List ℕ) (xs ys : List X) → map f (xs ++ ys) ≡ map f xs ++ map f ys
  mapped_next f [] ys = refl
  mapped_next f (x ∷ xs) ys = ap (λ names. f x ∷ names) (mapped_next f xs ys)

-- what goes with an element at a place
pub zip_has : {A B : Type 0} (R : A → B → Type 0) (xs : List A) (ys : List B) (k : ℕ) (x : A) → AllZip R xs ys → slice_get xs k ≡ Some x → (y : B) × (slice_get ys k ≡ Some y) × R x y
zip_has R [] [] k x all there = absurd (cc)
zip_has R [] (y ∷ ys) k x all there = absurd all
zip_has R (a ∷ xs) [] k x all there = absurd all
zip_has {B = B} R (a ∷ xs) (b ∷ ys) zero x all there = let same : a ≡ x = cc in (b, refl, subst (λ z. R z b) same all.0)
zip_has R (a ∷ xs) (b ∷ ys) (suc k) x all there = zip_has R xs ys k x all.1 there
