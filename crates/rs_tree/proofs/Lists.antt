-- Elements of lists, of lists that go together, and what a middle part of a list has.
use Rattle.std.proofs.Common.{◌≡◌, ◌<◌, ◌≤◌, ◌+◌, ℕ, zero, suc, Some, List, [], ◌∷◌, ◌++◌, length, take, drop, slice_get, map, refl, sym, ap, ◌∙◌, subst, arith}
use Rattle.std.proofs.lemmas.List.Sums.{sum_by-cons}
use Rattle.std.specs.List.{AllByRecursion, AllZip, flat_map, sum_by}

pub all_at : {X : Type 0} (P : X → Type 0) (xs : List X) (i : ℕ) (x : X) → AllByRecursion P xs → slice_get xs i ≡ Some x → P x
all_at P [] i x all e = absurd (cc)
all_at P (y ∷ ys) zero x all e = let same : y ≡ x = cc in subst P same all.0
all_at P (y ∷ ys) (suc i) x all e = all_at P ys i x all.1 e

pub inside_has : {X : Type 0} (xs : List X) (i : ℕ) → i < length xs → (x : X) × (slice_get xs i ≡ Some x)
inside_has [] i h = absurd (omega arith)
inside_has (x ∷ xs) zero h = (x, refl)
inside_has (x ∷ xs) (suc i) h = inside_has xs i (omega arith)

pub has_inside : {X : Type 0} (xs : List X) (i : ℕ) (x : X) → slice_get xs i ≡ Some x → i < length xs
has_inside [] i x e = absurd (cc)
has_inside (y ∷ ys) zero x e = omega arith
has_inside (y ∷ ys) (suc i) x e = omega (arith, has_inside ys i x e)

pub zip_lengths : {A B : Type 0} (R : A → B → Type 0) (xs : List A) (ys : List B) → AllZip R xs ys → length xs ≡ length ys
zip_lengths R [] [] all = refl
zip_lengths R [] (y ∷ ys) all = absurd all
zip_lengths R (x ∷ xs) [] all = absurd all
zip_lengths R (x ∷ xs) (y ∷ ys) all = ap suc (zip_lengths R xs ys all.1)

pub zip_at : {A B : Type 0} (R : A → B → Type 0) (xs : List A) (ys : List B) (i : ℕ) (x : A) (y : B) → AllZip R xs ys → slice_get xs i ≡ Some x → slice_get ys i ≡ Some y → R x y
zip_at R [] [] i x y all e f = absurd (cc)
zip_at R [] (b ∷ bs) i x y all e f = absurd all
zip_at R (a ∷ xs) [] i x y all e f = absurd all
zip_at R (a ∷ xs) (b ∷ bs) zero x y all e f =
    let one : a ≡ x = cc in let other : b ≡ y = cc in subst (λ z. R z y) one (subst (R a) other all.0)
zip_at R (a ∷ xs) (b ∷ bs) (suc i) x y all e f = zip_at R xs bs i x y all.1 e f

pub map_at : {A B : Type 0} (f : A → B) (xs : List A) (i : ℕ) (x : A) → slice_get xs i ≡ Some x → slice_get (map f xs) i ≡ Some (f x)
map_at f [] i x e = absurd (cc)
map_at f (y ∷ ys) zero x e = let same : y ≡ x = cc in ap (λ z. Some (f z)) same
map_at f (y ∷ ys) (suc i) x e = map_at f ys i x e

pub drop_at_place : {X : Type 0} (xs : List X) (p k : ℕ) → slice_get (drop p xs) k ≡ slice_get xs (p + k)
drop_at_place xs zero k = let e : 0 + k ≡ k = omega arith in ap (slice_get xs) (sym e)
drop_at_place [] (suc p) k = refl
drop_at_place (x ∷ xs) (suc p) k = let e : suc (p + k) ≡ suc p + k = omega arith in drop_at_place xs p k ∙ ap (slice_get (x ∷ xs)) e

-- one more of a list
pub take_next : {X : Type 0} (xs : List X) (k : ℕ) (x : X) → slice_get xs k ≡ Some x → take (suc k) xs ≡ take k xs ++ x ∷ []
take_next [] k x e = absurd (cc)
take_next (y ∷ ys) zero x e = let same : y ≡ x = cc in ap (λ z. z ∷ []) same
take_next (y ∷ ys) (suc k) x e = ap (λ zs. y ∷ zs) (take_next ys k x e)

pub all_take_less : {X : Type 0} (P : X → Type 0) (xs : List X) (m n : ℕ) → m ≤ n → AllByRecursion P (take n xs) → AllByRecursion P (take m xs)
all_take_less P xs zero n h all = tt
all_take_less P [] (suc m) n h all = tt
all_take_less P (x ∷ xs) (suc m) zero h all = absurd (omega arith)
all_take_less P (x ∷ xs) (suc m) (suc n) h all = (all.0, all_take_less P xs m n (omega arith) all.1)

pub all_drop_more : {X : Type 0} (P : X → Type 0) (xs : List X) (m n : ℕ) → m ≤ n → AllByRecursion P (drop m xs) → AllByRecursion P (drop n xs)
all_drop_more P xs zero zero h all = all
all_drop_more P [] zero (suc n) h all = tt
all_drop_more P (x ∷ xs) zero (suc n) h all = all_drop_more P xs zero n (omega arith) all.1
all_drop_more P xs (suc m) zero h all = absurd (omega arith)
all_drop_more P [] (suc m) (suc n) h all = tt
all_drop_more P (x ∷ xs) (suc m) (suc n) h all = all_drop_more P xs m n (omega arith) all

-- what holds of the first q holds of those from p on that are among them
pub all_middle : {X : Type 0} (P : X → Type 0) (xs : List X) (p n q : ℕ) → p + n ≤ q → AllByRecursion P (take q xs) → AllByRecursion P (take n (drop p xs))
all_middle P xs zero n q h all = all_take_less P xs n q (omega arith) all
all_middle P [] (suc p) zero q h all = tt
all_middle P [] (suc p) (suc n) q h all = tt
all_middle P (x ∷ xs) (suc p) n zero h all = absurd (omega arith)
all_middle P (x ∷ xs) (suc p) n (suc q) h all = all_middle P xs p n q (omega arith) all.1

module _ {X A : Type 0} (has : X → List A) where
  flat_none : (xs : List X) → AllByRecursion (λ x. has x ≡ []) xs → flat_map has xs ≡ []
  flat_none [] none = refl
  flat_none (x ∷ xs) none = rw none.0 (flat_none xs none.1)

  -- only those in the middle have something
  pub flat_middle : (xs : List X) (p n : ℕ) → AllByRecursion (λ x. has x ≡ []) (take p xs) → AllByRecursion (λ x. has x ≡ []) (drop n (drop p xs))
      → flat_map has xs ≡ flat_map has (take n (drop p xs))
  flat_middle xs zero zero before after = flat_none xs after
  flat_middle [] zero (suc n) before after = refl
  flat_middle (x ∷ xs) zero (suc n) before after = ap (λ rest. has x ++ rest) (flat_middle xs zero n tt after)
  flat_middle [] (suc p) zero before after = refl
  flat_middle [] (suc p) (suc n) before after = refl
  flat_middle (x ∷ xs) (suc p) n before after = rw before.0 (flat_middle xs p n before.1 after)

  pub flat_push : (xs : List X) (x : X) → flat_map has (xs ++ x ∷ []) ≡ flat_map has xs ++ has x
  flat_push [] x = append_none (has x) where
    append_none : (as' : List A) → as' ++ [] ≡ as'
    append_none [] = refl
    append_none (a ∷ rest) = ap (λ zs. a ∷ zs) (append_none rest)
  flat_push (y ∷ ys) x = ap (λ zs. has y ++ zs) (flat_push ys x) ∙ append_assoc' (has y) (flat_map has ys) (has x) where
    append_assoc' : (a b c : List A) → a ++ (b ++ c) ≡ (a ++ b) ++ c
    append_assoc' [] b c = refl
    append_assoc' (z ∷ zs) b c = ap (λ ws. z ∷ ws) (append_assoc' zs b c)

-- those that count for nothing before and after the middle
sum_none : {X : Type 0} (f : X → ℕ) (xs : List X) → AllByRecursion (λ x. f x ≡ 0) xs → sum_by f xs ≡ 0
sum_none f [] all = refl
sum_none f (x ∷ xs) all = omega (arith, all.0, sum_none f xs all.1, sum_by-cons f x xs)

pub sum_middle : {X : Type 0} (f : X → ℕ) (xs : List X) (p n : ℕ) → AllByRecursion (λ x. f x ≡ 0) (take p xs) → AllByRecursion (λ x. f x ≡ 0) (drop n (drop p xs))
    → sum_by f xs ≡ sum_by f (take n (drop p xs))
sum_middle f xs zero zero before after = sum_none f xs after
sum_middle f [] zero (suc n) before after = refl
sum_middle f (x ∷ xs) zero (suc n) before after = omega (arith, sum_middle f xs zero n tt after, sum_by-cons f x xs, sum_by-cons f x (take n xs))
sum_middle f [] (suc p) zero before after = refl
sum_middle f [] (suc p) (suc n) before after = refl
sum_middle f (x ∷ xs) (suc p) n before after = omega (arith, before.0, sum_middle f xs p n before.1 after, sum_by-cons f x xs)

-- an element and those before it are no more than all
pub sum_upto : {X : Type 0} (f : X → ℕ) (xs : List X) (k : ℕ) (x : X) → slice_get xs k ≡ Some x → sum_by f (take k xs) + f x ≤ sum_by f xs
sum_upto f [] k x e = absurd (cc)
sum_upto f (y ∷ ys) zero x e = let same : f y ≡ f x = ap f (let s : y ≡ x = cc in s) in omega (arith, same, sum_by-cons f y ys)
sum_upto f (y ∷ ys) (suc k) x e = omega (arith, sum_upto f ys k x e, sum_by-cons f y (take k ys), sum_by-cons f y ys)

pub sum_upto_middle : {X : Type 0} (f : X → ℕ) (xs : List X) (p k : ℕ) (x : X) → slice_get (drop p xs) k ≡ Some x → sum_by f (take k (drop p xs)) + f x ≤ sum_by f xs
sum_upto_middle f xs zero k x e = sum_upto f xs k x e
sum_upto_middle f [] (suc p) k x e = absurd (cc)
sum_upto_middle f (y ∷ ys) (suc p) k x e = omega (arith, sum_upto_middle f ys p k x e, sum_by-cons f y ys)
