-- Lists that a loop goes over, one element after another.
use Rattle.std.proofs.Common.{◌≡◌, ℕ, zero, suc, ◌+◌, ◌<◌, ◌≤◌, Bool, true, false, ◌&&◌, ◌||◌, cond, filter, List, [], ◌∷◌, ◌++◌, map, flat_map, length, drop, take, get_or, refl, sym, ap, ◌∙◌, arith}
use Rattle.std.specs.List.{list_all, list_any, range_with_len}
use Rattle.std.proofs.lemmas.List.Concat.{flat_map-append}
use Rattle.std.proofs.lemmas.List.{drop_more, drop_all, take_more, map-append}

-- ---- ranges

range-more : (from n : ℕ) → range_with_len from (n + 1) ≡ range_with_len from n ++ (from + n) ∷ []
range-more from zero = ap (λ (m : ℕ). m ∷ []) (omega arith)
range-more from (suc n) =
    ap (range_with_len from) (let e : suc n + 1 ≡ suc (n + 1) = omega arith in e)
    ∙ ap (λ l. from ∷ l) (range-more (from + 1) n)
    ∙ ap (λ (m : ℕ). from ∷ range_with_len (from + 1) n ++ m ∷ []) (omega arith)

pub mapped-range : {A : Type 0} (f : ℕ → A) (n : ℕ) → map f (range_with_len 0 (n + 1)) ≡ map f (range_with_len 0 n) ++ f n ∷ []
mapped-range f n =
    ap (map f) (range-more 0 n) ∙ map-append f (range_with_len 0 n) ((0 + n) ∷ [])
    ∙ ap (λ (m : ℕ). map f (range_with_len 0 n) ++ f m ∷ []) (omega arith)

-- ---- maps

pub map-map : {A B C : Type 0} (f : B → C) (g : A → B) (xs : List A) → map f (map g xs) ≡ map (λ x. f (g x)) xs
map-map f g [] = refl
map-map f g (x ∷ xs) = ap (λ l. f (g x) ∷ l) (map-map f g xs)

-- one element more on both sides
pub mapped-more : {A B C : Type 0} (f : A → C) (g : B → C) (made : List A) (xs : List B) (i : ℕ) (one : A) (x : B) → i < length xs → x ≡ get_or xs i x
    → map f made ≡ map g (take i xs) → f one ≡ g x → map f (made ++ one ∷ []) ≡ map g (take (i + 1) xs)
mapped-more f g made xs i one x below is so_far here =
    map-append f made (one ∷ []) ∙ (λ j. so_far j ++ here j ∷ [])
    ∙ sym (ap (map g) (take_more xs i x below) ∙ map-append g (take i xs) (get_or xs i x ∷ []) ∙ ap (λ y. map g (take i xs) ++ g y ∷ []) (sym is))

-- ---- tests

module _ {A : Type 0} (test : A → Bool) (xs : List A) (i : ℕ) (x : A) (below : i < length xs) (is : x ≡ get_or xs i x) (all : Bool) where
  pub all-next : all ≡ list_all test (drop i xs) → all ≡ (test x && list_all test (drop (i + 1) xs))
  all-next e = e ∙ ap (list_all test) (drop_more xs i x below) ∙ ap (λ y. test y && list_all test (drop (i + 1) xs)) (sym is)

  pub all-passes : all ≡ list_all test (drop i xs) → true ≡ test x → all ≡ list_all test (drop (i + 1) xs)
  all-passes e passes = all-next e ∙ ap (λ b. b && list_all test (drop (i + 1) xs)) (sym passes)

  pub all-fails : all ≡ list_all test (drop i xs) → false ≡ test x → false ≡ all
  all-fails e fails = sym (all-next e ∙ ap (λ b. b && list_all test (drop (i + 1) xs)) (sym fails))

pub all-end : {A : Type 0} (test : A → Bool) (xs : List A) (i : ℕ) (all : Bool) → all ≡ list_all test (drop i xs) → length xs ≤ i → true ≡ all
all-end test xs i all e done = sym (e ∙ ap (list_all test) (drop_all i xs done))

pub all-map : {A B : Type 0} (test : B → Bool) (f : A → B) (xs : List A) → list_all test (map f xs) ≡ list_all (λ x. test (f x)) xs
all-map test f [] = refl
all-map test f (x ∷ xs) = ap (λ b. test (f x) && b) (all-map test f xs)

pub all-append : {A : Type 0} (test : A → Bool) (xs ys : List A) → list_all test (xs ++ ys) ≡ (list_all test xs && list_all test ys)
all-append test [] ys = refl
all-append test (x ∷ xs) ys = ap (λ b. test x && b) (all-append test xs ys) ∙ sym (and_assoc (test x) (list_all test xs) (list_all test ys))
  where
    and_assoc : (a b c : Bool) → ((a && b) && c) ≡ (a && (b && c))
    and_assoc true b c = refl
    and_assoc false b c = refl

pub and-true : (b : Bool) → b ≡ (b && true)
and-true true = refl
and-true false = refl

pub append-end : {X : Type 0} (xs : List X) → xs ++ [] ≡ xs
append-end [] = refl
append-end (x ∷ xs) = ap (λ r. x ∷ r) (append-end xs)

pub any-map : {A B : Type 0} (test : B → Bool) (f : A → B) (xs : List A) → list_any test (map f xs) ≡ list_any (λ x. test (f x)) xs
any-map test f [] = refl
any-map test f (x ∷ xs) = ap (λ b. test (f x) || b) (any-map test f xs)

-- ---- those that pass, one element more

filter-push : {B : Type 0} (test : B → Bool) (ys : List B) (y : B) → filter test (ys ++ y ∷ []) ≡ filter test ys ++ cond (test y) (y ∷ []) []
filter-push test [] y = refl
filter-push test (x ∷ ys) y = elim (test x) as (λ t. cond t (x ∷ filter test (ys ++ y ∷ [])) (filter test (ys ++ y ∷ [])) ≡ cond t (x ∷ filter test ys) (filter test ys) ++ cond (test y) (y ∷ []) []) [
  | true ↦ ap (λ l. x ∷ l) (filter-push test ys y)
  | false ↦ filter-push test ys y
]

pub chosen-more : {A B C : Type 0} (test : B → Bool) (f : B → C) (g : A → B) (xs : List A) (i : ℕ) (x : A) → i < length xs → x ≡ get_or xs i x
    → map f (filter test (map g (take i xs))) ++ cond (test (g x)) (f (g x) ∷ []) [] ≡ map f (filter test (map g (take (i + 1) xs)))
chosen-more test f g xs i x below is =
    ap (λ l. map f (filter test (map g (take i xs))) ++ l) (by (test (g x)))
    ∙ sym (map-append f (filter test (map g (take i xs))) (cond (test (g x)) (g x ∷ []) []))
    ∙ ap (map f) (sym (filter-push test (map g (take i xs)) (g x)))
    ∙ ap (λ l. map f (filter test l)) (ap (λ y. map g (take i xs) ++ g y ∷ []) is ∙ sym (map-append g (take i xs) (get_or xs i x ∷ [])) ∙ ap (map g) (sym (take_more xs i x below)))
  where
    by : (t : Bool) → cond t (f (g x) ∷ []) [] ≡ map f (cond t (g x ∷ []) [])
    by true = refl
    by false = refl

-- ---- lists of each, one element more

pub flat-more : {A B C : Type 0} (f : A → List C) (g : B → List C) (made : List A) (xs : List B) (i : ℕ) (one : A) (x : B) → i < length xs → x ≡ get_or xs i x
    → flat_map f made ≡ flat_map g (take i xs) → f one ≡ g x → flat_map f (made ++ one ∷ []) ≡ flat_map g (take (i + 1) xs)
flat-more f g made xs i one x below is so_far here =
    flat_map-append f made (one ∷ []) ∙ (λ j. so_far j ++ (here j ++ []))
    ∙ sym (ap (flat_map g) (take_more xs i x below) ∙ flat_map-append g (take i xs) (get_or xs i x ∷ []) ∙ ap (λ y. flat_map g (take i xs) ++ (g y ++ [])) (sym is))
