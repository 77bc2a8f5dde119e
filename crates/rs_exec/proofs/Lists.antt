-- Lists that are made one by one beside another list, and what is so of each element of a list.
use Rattle.std.proofs.Common.{◌≡◌, ◌<◌, ◌≤◌, ℕ, ◌+◌, Bool, true, false, ◌||◌, List, [], ◌∷◌, ◌++◌, Option, Some, length, drop, get_or, refl, sym, ap, ◌∙◌, subst, append_assoc, append-nil, arith}
use Rattle.std.proofs.lemmas.List.{drop_more, drop_all}
use Rattle.std.specs.List.{AllZip, AllByRecursion, list_any}
use Rattle.std.specs.Option.{option_to_list}

-- ---- elements made one by one

module _ {A B : Type 0} (R : A → B → Type 0) where
  -- what is made, with what fits the rest, fits all
  pub record Zips (all rest : List A) (made : List B) : Type 0 where
    pub joins : (more : List B) → AllZip R rest more → AllZip R all (made ++ more)

  pub zips-none : (all : List A) (made : List B) → made ≡ [] → Zips all all made
  zips-none all made none = record { joins = λ more each. subst (λ zs. AllZip R all (zs ++ more)) (sym none) each }

  pub zips-next : (all rest later : List A) (made new : List B) (x : A) (m : B) → Zips all rest made → rest ≡ x ∷ later → new ≡ made ++ m ∷ [] → R x m → Zips all later new
  zips-next all rest later made new x m so_far first pushed here = record {
    joins = λ more each.
        subst (AllZip R all) (sym (ap (λ zs. zs ++ more) pushed ∙ append_assoc made (m ∷ []) more))
        (so_far.joins (m ∷ more) (subst (λ xs. AllZip R xs (m ∷ more)) (sym first) (here, each)));
  }

  pub zips-all : (all rest : List A) (made : List B) → Zips all rest made → rest ≡ [] → AllZip R all made
  zips-all all rest made so_far none = subst (AllZip R all) (append-nil made) (so_far.joins [] (subst (λ xs. AllZip R xs []) (sym none) tt))

pub empty : {A : Type 0} (xs : List A) → length xs ≡ 0 → xs ≡ []
empty [] e = refl
empty (x ∷ xs) e = absurd (omega (arith, e))

-- the elements from a place on
pub more : {A : Type 0} (xs : List A) (i : ℕ) (x : A) → i < length xs → x ≡ get_or xs i x → drop i xs ≡ x ∷ drop (i + 1) xs
more xs i x below is = drop_more xs i x below ∙ ap (λ n. n ∷ drop (i + 1) xs) (sym is)

-- the same of numbers, which are read
pub more-numbers : (xs : List ℕ) (i : ℕ) → i < length xs → drop i xs ≡ get_or xs i 0 ∷ drop (i + 1) xs
more-numbers xs i below = drop_more xs i 0 below

pub end : {A : Type 0} (xs : List A) (i : ℕ) → length xs ≤ i → drop i xs ≡ []
end xs i done = drop_all i xs done

-- ---- two lists, of which an element comes at a time

-- there is a second where there is a first
pub some-second : {A B : Type 0} (R : A → B → Type 0) (xs : List A) (ys : List B) (later : List A) (x : A) → AllZip R xs ys → xs ≡ x ∷ later → 0 < length ys
some-second R [] ys later x all first = absurd (let e = ap length first in omega (arith, e))
some-second R (z ∷ xs) [] later x all first = absurd all
some-second R (z ∷ xs) (y ∷ ys) later x all first = omega arith

pub both-firsts : {A B : Type 0} (R : A → B → Type 0) (xs more_xs : List A) (ys more_ys : List B) (x : A) (y : B) → AllZip R xs ys → xs ≡ x ∷ more_xs → ys ≡ y ∷ more_ys → R x y × AllZip R more_xs more_ys
both-firsts R xs more_xs ys more_ys x y all e f = subst (λ zs. AllZip R (x ∷ more_xs) zs) f (subst (λ zs. AllZip R zs ys) e all)

-- the element that comes is the first of those that are left
pub first-given : {A : Type 0} (before later : List A) (given : Option A) (x : A) → before ≡ option_to_list given ++ later → given ≡ Some x → before ≡ x ∷ later
first-given before later given x items is = items ∙ ap (λ o. option_to_list o ++ later) is

-- ---- each element

pub every-weaker : {A : Type 0} (P Q : A → Type 0) (xs : List A) → ((x : A) → P x → Q x) → AllByRecursion P xs → AllByRecursion Q xs
every-weaker P Q [] weaker all = tt
every-weaker P Q (x ∷ xs) weaker all = (weaker x all.0, every-weaker P Q xs weaker all.1)

pub every-last : {A : Type 0} (P : A → Type 0) (xs : List A) (x : A) → AllByRecursion P xs → P x → AllByRecursion P (xs ++ x ∷ [])
every-last P [] x all here = (here, tt)
every-last P (y ∷ xs) x all here = (all.0, every-last P xs x all.1 here)

pub zip-weaker : {A B : Type 0} (P Q : A → B → Type 0) (xs : List A) (ys : List B) → ((x : A) (y : B) → P x y → Q x y) → AllZip P xs ys → AllZip Q xs ys
zip-weaker P Q [] [] weaker all = tt
zip-weaker P Q [] (y ∷ ys) weaker all = absurd all
zip-weaker P Q (x ∷ xs) [] weaker all = absurd all
zip-weaker P Q (x ∷ xs) (y ∷ ys) weaker all = (weaker x y all.0, zip-weaker P Q xs ys weaker all.1)

pub zip-where : {A B : Type 0} (L : A → Type 0) (P Q : A → B → Type 0) (xs : List A) (ys : List B) → ((x : A) (y : B) → L x → P x y → Q x y) → AllByRecursion L xs → AllZip P xs ys → AllZip Q xs ys
zip-where L P Q [] [] weaker each all = tt
zip-where L P Q [] (y ∷ ys) weaker each all = absurd all
zip-where L P Q (x ∷ xs) [] weaker each all = absurd all
zip-where L P Q (x ∷ xs) (y ∷ ys) weaker each all = (weaker x y each.0 all.0, zip-where L P Q xs ys weaker each.1 all.1)

pub zip-length : {A B : Type 0} (R : A → B → Type 0) (xs : List A) (ys : List B) → AllZip R xs ys → length xs ≡ length ys
zip-length R [] [] all = refl
zip-length R [] (y ∷ ys) all = absurd all
zip-length R (x ∷ xs) [] all = absurd all
zip-length R (x ∷ xs) (y ∷ ys) all = let e = zip-length R xs ys all.1 in omega (arith, e)

-- what is so of each second, whatever its first
pub zip-seconds : {A B : Type 0} (R : A → B → Type 0) (P : B → Type 0) (xs : List A) (ys : List B) → ((x : A) (y : B) → R x y → P y) → AllZip R xs ys → AllByRecursion P ys
zip-seconds R P [] [] weaker all = tt
zip-seconds R P [] (y ∷ ys) weaker all = absurd all
zip-seconds R P (x ∷ xs) [] weaker all = tt
zip-seconds R P (x ∷ xs) (y ∷ ys) weaker all = (weaker x y all.0, zip-seconds R P xs ys weaker all.1)

-- ---- tests

pub or_first : (a b : Bool) → a ≡ true → (a || b) ≡ true
or_first a b e = ap (λ t. t || b) e

pub or_second : (a b : Bool) → b ≡ true → (a || b) ≡ true
or_second true b e = refl
or_second false b e = e

-- the second, where the first is not
pub or_else : (a b : Bool) → (a || b) ≡ true → a ≡ false → b ≡ true
or_else a b e off = ap (λ t. t || b) (sym off) ∙ e

pub none_first : (a b : Bool) → (a || b) ≡ false → a ≡ false
none_first true b e = e
none_first false b e = refl

pub none_second : (a b : Bool) → (a || b) ≡ false → b ≡ false
none_second true b e = absurd (let wrong : true ≡ false = e in cc)
none_second false b e = e

-- from a place on: the element there passes, or it does not
pub any-found : {A : Type 0} (test : A → Bool) (xs : List A) (i : ℕ) (x : A) → i < length xs → x ≡ get_or xs i x → test x ≡ true → list_any test (drop i xs) ≡ true
any-found test xs i x below is passes = ap (list_any test) (more xs i x below is) ∙ or_first (test x) (list_any test (drop (i + 1) xs)) passes

pub any-other : {A : Type 0} (test : A → Bool) (xs : List A) (i : ℕ) (x : A) → i < length xs → x ≡ get_or xs i x → test x ≡ false → list_any test (drop i xs) ≡ list_any test (drop (i + 1) xs)
any-other test xs i x below is fails = ap (list_any test) (more xs i x below is) ∙ ap (λ t. t || list_any test (drop (i + 1) xs)) fails
