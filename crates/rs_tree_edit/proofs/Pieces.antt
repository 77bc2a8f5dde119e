-- Lists that are cut at a place, and lists that go together with them.
use Rattle.std.proofs.Common.{◌≡◌, ◌+◌, ℕ, zero, suc, Some, List, [], ◌∷◌, ◌++◌, take, drop, slice_get, map, refl, sym, ap, ◌∙◌, subst, arith}
use Rattle.std.proofs.lemmas.Grind.{flat_map-append}
use Rattle.std.proofs.lemmas.List.{map-append}
use Rattle.std.proofs.lemmas.List.Sums.{sum_by-cons, sum_by-append}
use Rattle.std.specs.List.{AllByRecursion, AllZip, flat_map, sum_by}

-- what is before an element, and what is after it
pub list_at : {X : Type 0} (xs : List X) (i : ℕ) (x : X) → slice_get xs i ≡ Some x → xs ≡ take i xs ++ x ∷ drop (suc i) xs
list_at [] i x e = absurd (cc)
list_at (y ∷ ys) zero x e = let same : y ≡ x = cc in ap (λ z. z ∷ ys) same
list_at (y ∷ ys) (suc i) x e = ap (λ zs. y ∷ zs) (list_at ys i x e)

pub flat_at : {X A : Type 0} (has : X → List A) (xs : List X) (i : ℕ) (x : X) → slice_get xs i ≡ Some x
    → flat_map has xs ≡ flat_map has (take i xs) ++ (has x ++ flat_map has (drop (suc i) xs))
flat_at has xs i x e = ap (flat_map has) (list_at xs i x e) ∙ flat_map-append has (take i xs) (x ∷ drop (suc i) xs)

pub sum_at : {X : Type 0} (f : X → ℕ) (xs : List X) (i : ℕ) (x : X) → slice_get xs i ≡ Some x
    → sum_by f xs ≡ sum_by f (take i xs) + (f x + sum_by f (drop (suc i) xs))
sum_at f xs i x e =
    let whole : sum_by f xs ≡ sum_by f (take i xs ++ x ∷ drop (suc i) xs) = ap (sum_by f) (list_at xs i x e) in
    omega (arith, whole, sum_by-append f (take i xs) (x ∷ drop (suc i) xs), sum_by-cons f x (drop (suc i) xs))

-- the same where other elements are in between
pub flat_between : {X A : Type 0} (has : X → List A) (before news after : List X)
    → flat_map has (before ++ (news ++ after)) ≡ flat_map has before ++ (flat_map has news ++ flat_map has after)
flat_between has before news after =
    flat_map-append has before (news ++ after) ∙ ap (λ zs. flat_map has before ++ zs) (flat_map-append has news after)

pub sum_between : {X : Type 0} (f : X → ℕ) (before news after : List X)
    → sum_by f (before ++ (news ++ after)) ≡ sum_by f before + (sum_by f news + sum_by f after)
sum_between f before news after = omega (arith, sum_by-append f before (news ++ after), sum_by-append f news after)

pub all_take : {X : Type 0} (P : X → Type 0) (xs : List X) (i : ℕ) → AllByRecursion P xs → AllByRecursion P (take i xs)
all_take P xs zero all = tt
all_take P [] (suc i) all = tt
all_take P (x ∷ xs) (suc i) all = (all.0, all_take P xs i all.1)

pub all_drop : {X : Type 0} (P : X → Type 0) (xs : List X) (i : ℕ) → AllByRecursion P xs → AllByRecursion P (drop i xs)
all_drop P xs zero all = all
all_drop P [] (suc i) all = tt
all_drop P (x ∷ xs) (suc i) all = all_drop P xs i all.1

pub all_append : {X : Type 0} (P : X → Type 0) (xs ys : List X) → AllByRecursion P xs → AllByRecursion P ys → AllByRecursion P (xs ++ ys)
all_append P [] ys one other = other
all_append P (x ∷ xs) ys one other = (one.0, all_append P xs ys one.1 other)

pub zip_take : {A B : Type 0} (R : A → B → Type 0) (xs : List A) (ys : List B) (i : ℕ) → AllZip R xs ys → AllZip R (take i xs) (take i ys)
zip_take R xs ys zero all = tt
zip_take R [] [] (suc i) all = tt
zip_take R [] (y ∷ ys) (suc i) all = absurd all
zip_take R (x ∷ xs) [] (suc i) all = absurd all
zip_take R (x ∷ xs) (y ∷ ys) (suc i) all = (all.0, zip_take R xs ys i all.1)

pub zip_drop : {A B : Type 0} (R : A → B → Type 0) (xs : List A) (ys : List B) (i : ℕ) → AllZip R xs ys → AllZip R (drop i xs) (drop i ys)
zip_drop R xs ys zero all = all
zip_drop R [] [] (suc i) all = tt
zip_drop R [] (y ∷ ys) (suc i) all = absurd all
zip_drop R (x ∷ xs) [] (suc i) all = absurd all
zip_drop R (x ∷ xs) (y ∷ ys) (suc i) all = zip_drop R xs ys i all.1

pub zip_append : {A B : Type 0} (R : A → B → Type 0) (xs : List A) (ys : List B) (as' : List A) (bs : List B) → AllZip R xs ys → AllZip R as' bs → AllZip R (xs ++ as') (ys ++ bs)
zip_append R [] [] as' bs one other = other
zip_append R [] (y ∷ ys) as' bs one other = absurd one
zip_append R (x ∷ xs) [] as' bs one other = absurd one
zip_append R (x ∷ xs) (y ∷ ys) as' bs one other = (one.0, zip_append R xs ys as' bs one.1 other)

pub map-take : {A B : Type 0} (f : A → B) (xs : List A) (i : ℕ) → take i (map f xs) ≡ map f (take i xs)
map-take f xs zero = refl
map-take f [] (suc i) = refl
map-take f (x ∷ xs) (suc i) = ap (λ zs. f x ∷ zs) (map-take f xs i)

pub map-drop : {A B : Type 0} (f : A → B) (xs : List A) (i : ℕ) → drop i (map f xs) ≡ map f (drop i xs)
map-drop f xs zero = refl
map-drop f [] (suc i) = refl
map-drop f (x ∷ xs) (suc i) = map-drop f xs i

-- what goes together with mapped elements, where some gave way to others
pub zip_spliced : {A B C : Type 0} (R : A → C → Type 0) (f : B → C) (es new : List A) (xs news : List B) (i j : ℕ) → AllZip R es (map f xs) → AllZip R new (map f news)
    → AllZip R (take i es ++ (new ++ drop j es)) (map f (take i xs ++ (news ++ drop j xs)))
zip_spliced R f es new xs news i j all one =
    let before = subst (AllZip R (take i es)) (map-take f xs i) (zip_take R es (map f xs) i all) in
    let after = subst (AllZip R (drop j es)) (map-drop f xs j) (zip_drop R es (map f xs) j all) in
    let rest = subst (AllZip R (new ++ drop j es)) (sym (map-append f news (drop j xs))) (zip_append R new (map f news) (drop j es) (map f (drop j xs)) one after) in
    subst (AllZip R (take i es ++ (new ++ drop j es))) (sym (map-append f (take i xs) (news ++ drop j xs))) (zip_append R (take i es) (map f (take i xs)) (new ++ drop j es) (map f (news ++ drop j xs)) before rest)
