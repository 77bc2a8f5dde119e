-- Lists of parts, one part longer: what they say, that they lie, and that their cells ascend.
use Rattle.std.proofs.Common.{◌≡◌, ℕ, zero, suc, true, Option, Some, None, List, [], ◌∷◌, ◌++◌, take, map, slice_get, refl, ap, ◌∙◌, subst}
use Rattle.std.specs.List.{AllByRecursion, AllZip, flat_map}
use Rattle.std.specs.Option.{option_or}
use Rattle.rs_records.specs.Order.{is_below, Ascends}
use Rattle.rs_records.proofs.Orders.{is_below-trans}
use Rattle.rs_tree.proofs.Below.{AllBelow, all_below_trans, ascends_last}
use Rattle.rs_tree.proofs.Parts.{Leasts, part_below}
use Rattle.rs_tree_whole.specs.Bounds.{AreUnder}

pub zip_push : {A B : Type 0} (R : A → B → Type 0) (xs : List A) (ys : List B) (x : A) (y : B) → AllZip R xs ys → R x y → AllZip R (xs ++ x ∷ []) (ys ++ y ∷ [])
zip_push R [] [] x y all r = (r, tt)
zip_push R [] (b ∷ bs) x y all r = absurd all
zip_push R (a ∷ xs) [] x y all r = absurd all
zip_push R (a ∷ xs) (b ∷ bs) x y all r = (all.0, zip_push R xs bs x y all.1 r)

pub zip_take : {A B : Type 0} (R : A → B → Type 0) (xs : List A) (ys : List B) (k : ℕ) → AllZip R xs ys → AllZip R (take k xs) (take k ys)
zip_take R xs ys zero all = tt
zip_take R [] [] (suc k) all = tt
zip_take R [] (b ∷ bs) (suc k) all = absurd all
zip_take R (a ∷ xs) [] (suc k) all = absurd all
zip_take R (a ∷ xs) (b ∷ bs) (suc k) all = (all.0, zip_take R xs bs k all.1)

pub map_take : {A B : Type 0} (f : A → B) (xs : List A) (k : ℕ) → take k (map f xs) ≡ map f (take k xs)
map_take f xs zero = refl
map_take f [] (suc k) = refl
map_take f (x ∷ xs) (suc k) = ap (λ ys. f x ∷ ys) (map_take f xs k)

pub map_push : {A B : Type 0} (f : A → B) (xs : List A) (x : A) → map f (xs ++ x ∷ []) ≡ map f xs ++ f x ∷ []
map_push f [] x = refl
map_push f (y ∷ ys) x = ap (λ zs. f y ∷ zs) (map_push f ys x)

pub all_push : {A : Type 0} (P : A → Type 0) (xs : List A) (x : A) → AllByRecursion P xs → P x → AllByRecursion P (xs ++ x ∷ [])
all_push P [] x all p = (p, tt)
all_push P (y ∷ ys) x all p = (all.0, all_push P ys x all.1 p)

pub all_take : {A : Type 0} (P : A → Type 0) (xs : List A) (k : ℕ) → AllByRecursion P xs → AllByRecursion P (take k xs)
all_take P xs zero all = tt
all_take P [] (suc k) all = tt
all_take P (x ∷ xs) (suc k) all = (all.0, all_take P xs k all.1)

all_join : {A : Type 0} (P : A → Type 0) (xs ys : List A) → AllByRecursion P xs → AllByRecursion P ys → AllByRecursion P (xs ++ ys)
all_join P [] ys a b = b
all_join P (x ∷ xs) ys a b = (a.0, all_join P xs ys a.1 b)

all_front : {A : Type 0} (P : A → Type 0) (xs ys : List A) → AllByRecursion P (xs ++ ys) → AllByRecursion P xs
all_front P [] ys all = tt
all_front P (x ∷ xs) ys all = (all.0, all_front P xs ys all.1)

all_back : {A : Type 0} (P : A → Type 0) (xs ys : List A) → AllByRecursion P (xs ++ ys) → AllByRecursion P ys
all_back P [] ys all = all
all_back P (x ∷ xs) ys all = all_back P xs ys all.1

above_all : (x key : List ℕ) (ys : List (List ℕ)) → is_below x key ≡ true → slice_get ys 0 ≡ Some key → Ascends ys → AllByRecursion (λ other. is_below x other ≡ true) ys
above_all x key [] below first up = tt
above_all x key (y ∷ ys) below first up =
    let same : key ≡ y = cc in
    let here : is_below x y ≡ true = subst (λ z. is_below x z ≡ true) same below in
    (here, goes x y ys here up.0)
  where
    goes : (a b : List ℕ) (cs : List (List ℕ)) → is_below a b ≡ true → AllByRecursion (λ other. is_below b other ≡ true) cs → AllByRecursion (λ other. is_below a other ≡ true) cs
    goes a b [] less all = tt
    goes a b (c ∷ cs) less all = (is_below-trans a b c less all.0, goes a b cs less all.1)

-- cells below the first of others, and then these
pub ascends_join : (key : List ℕ) (xs ys : List (List ℕ)) → Ascends xs → AllBelow key xs → slice_get ys 0 ≡ Some key → Ascends ys → Ascends (xs ++ ys)
ascends_join key [] ys up below first rise = rise
ascends_join key (x ∷ xs) ys up below first rise = (all_join (λ other. is_below x other ≡ true) xs ys up.0 (above_all x key ys below.0 first rise), ascends_join key xs ys up.1 below.1 first rise)

-- where the others are below a bound, so are all
pub under_join : (bound : Option (List ℕ)) (key : List ℕ) (xs ys : List (List ℕ)) → AllBelow key xs → slice_get ys 0 ≡ Some key → AreUnder bound ys → AreUnder bound (xs ++ ys)
under_join None key xs ys below first under = tt
under_join (Some b) key xs [] below first under = absurd (cc)
under_join (Some b) key xs (y ∷ ys) below first under =
    let same : y ≡ key = cc in
    all_join (λ cell. is_below cell b ≡ true) xs (y ∷ ys) (all_below_trans key b xs below (subst (λ z. is_below z b ≡ true) same under.0)) under

pub under_back : (bound : Option (List ℕ)) (xs ys : List (List ℕ)) → AreUnder bound (xs ++ ys) → AreUnder bound ys
under_back None xs ys under = tt
under_back (Some b) xs ys under = all_back (λ cell. is_below cell b ≡ true) xs ys under

-- each part is below what the next begins with, and the last is below the bound of all
pub under_next : {X : Type 0} (cells : X → List (List ℕ)) (bound : Option (List ℕ)) (ls : List (List ℕ)) (parts : List X) (i : ℕ) (part : X) → Leasts cells ls parts → Ascends (flat_map cells parts)
    → AreUnder bound (flat_map cells parts) → slice_get parts i ≡ Some part → AreUnder (option_or (slice_get ls (suc i)) bound) (cells part)
under_next cells bound [] [] i part leasts up under there = absurd (cc)
under_next cells bound [] (x ∷ xs) i part leasts up under there = absurd leasts
under_next cells bound (l ∷ ls) [] i part leasts up under there = absurd leasts
under_next cells bound (l ∷ []) (x ∷ []) zero part leasts up under there =
    let same : x ≡ part = cc in subst (λ p. AreUnder bound (cells p)) same (front bound (cells x) under) where
      front : (b : Option (List ℕ)) (xs : List (List ℕ)) → AreUnder b (xs ++ []) → AreUnder b xs
      front None xs h = tt
      front (Some b) xs h = all_front (λ cell. is_below cell b ≡ true) xs [] h
under_next cells bound (l ∷ []) (x ∷ y ∷ ys) zero part leasts up under there = absurd leasts.1
under_next cells bound (l ∷ m ∷ ms) (x ∷ []) zero part leasts up under there = absurd leasts.1
under_next cells bound (l ∷ m ∷ ms) (x ∷ y ∷ ys) zero part leasts up under there =
    let same : x ≡ part = cc in subst (λ p. AllBelow m (cells p)) same (part_below cells x y ys m leasts.1.0 up)
under_next cells bound (l ∷ ls) (x ∷ xs) (suc i) part leasts up under there =
    under_next cells bound ls xs i part leasts.1 (ascends_last (cells x) (flat_map cells xs) up) (under_back bound (cells x) (flat_map cells xs) under) there

-- the first cell of all is the first part's
pub first_least : {X : Type 0} (cells : X → List (List ℕ)) (ls : List (List ℕ)) (parts : List X) (l : List ℕ) → Leasts cells ls parts → slice_get ls 0 ≡ Some l → slice_get (flat_map cells parts) 0 ≡ Some l
first_least cells [] parts l leasts there = absurd (cc)
first_least cells (m ∷ ms) [] l leasts there = absurd leasts
first_least cells (m ∷ ms) (x ∷ xs) l leasts there = at (cells x) (leasts.0 ∙ there) where
  at : (cs : List (List ℕ)) → slice_get cs 0 ≡ Some l → slice_get (cs ++ flat_map cells xs) 0 ≡ Some l
  at [] e = absurd (cc)
  at (c ∷ cs) e = e
