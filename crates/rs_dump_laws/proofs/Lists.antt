-- What is so of all elements of a list, and of those that are in it.
use Rattle.std.proofs.Common.{◌≡◌, ◌∙◌, Bool, true, false, ◌⊎◌, inl, inr, List, [], ◌∷◌, ◌++◌, map, refl, ap, arith}
use Rattle.std.specs.Prelude.{Contains}
use Rattle.std.specs.List.{AllByRecursion, list_any}
use Rattle.std.proofs.lemmas.Bool.{or_cases, or_left, or_right}
use Rattle.std.proofs.lemmas.List.Elements.{All-contains, All-contains_itself, All-from_recursion, All-weaker, Contains-append_cases, Contains-append_right, recursion_from_All}

module _ {X : Type 0} where
  pub all_weaker : (P Q : X → Type 0) → ((x : X) → P x → Q x) → (xs : List X) → AllByRecursion P xs → AllByRecursion Q xs
  all_weaker P Q weaker [] all = tt
  all_weaker P Q weaker (x ∷ xs) all = (weaker x all.0, all_weaker P Q weaker xs all.1)

  -- what follows from two things that are so of each
  pub all_both : (P Q R : X → Type 0) → ((x : X) → P x → Q x → R x) → (xs : List X) → AllByRecursion P xs → AllByRecursion Q xs → AllByRecursion R xs
  all_both P Q R follows [] one other = tt
  all_both P Q R follows (x ∷ xs) one other = (follows x one.0 other.0, all_both P Q R follows xs one.1 other.1)

  pub of_each : (P : X → Type 0) (xs : List X) (x : X) → AllByRecursion P xs → Contains xs x → P x
  of_each P xs x all among = All-contains P xs x (All-from_recursion P xs all) among

  pub from_each : (P : X → Type 0) (xs : List X) → ((x : X) → Contains xs x → P x) → AllByRecursion P xs
  from_each P xs each = recursion_from_All P xs (All-weaker (Contains xs) P each xs (All-contains_itself xs))

  pub at_head : (x : X) (xs : List X) → Contains (x ∷ xs) x
  at_head x xs = (0, omega arith, refl)

  pub in_tail : (x y : X) (xs : List X) → Contains xs y → Contains (x ∷ xs) y
  in_tail x y xs among = Contains-append_right (x ∷ []) xs y among

  -- what is in a list of one is that one
  only : (x y : X) → Contains (x ∷ []) y → x ≡ y
  only x y among = of_each (λ z. x ≡ z) (x ∷ []) y (refl, tt) among

  -- the first, or in the rest
  pub first_or_later : (x y : X) (xs : List X) → Contains (x ∷ xs) y → (x ≡ y) ⊎ Contains xs y
  first_or_later x y xs among = elim (Contains-append_cases (x ∷ []) xs y among) [ inl here ↦ inl (only x y here) | inr later ↦ inr later ]

  pub none_in_nothing : (P : Type 0) (x : X) → Contains [] x → P
  none_in_nothing P x among = of_each (λ y. P) [] x tt among

  -- ---- tests

  pub some_of_any : (test : X → Bool) (xs : List X) → list_any test xs ≡ true → (x : X) × (Contains xs x) × (test x ≡ true)
  some_of_any test [] told = absurd (let wrong : false ≡ true = told in cc)
  some_of_any test (x ∷ xs) told = elim (or_cases (test x) (list_any test xs) told) [
    | inl here ↦ (x, at_head x xs, here)
    | inr later ↦ let one = some_of_any test xs later in (one.0, in_tail x one.0 xs one.1, one.2)
  ]

  pub any_from : (test : X → Bool) (xs : List X) (x : X) → Contains xs x → test x ≡ true → list_any test xs ≡ true
  any_from test [] x among told = none_in_nothing (false ≡ true) x among
  any_from test (y ∷ xs) x among told = elim (first_or_later y x xs among) [
    | inl same ↦ or_left (test y) (list_any test xs) (ap test same ∙ told)
    | inr later ↦ or_right (test y) (list_any test xs) (any_from test xs x later told)
  ]

  -- ---- lists made of lists

  pub all_append : (P : X → Type 0) (xs ys : List X) → AllByRecursion P xs → AllByRecursion P ys → AllByRecursion P (xs ++ ys)
  all_append P [] ys front back = back
  all_append P (x ∷ xs) ys front back = (front.0, all_append P xs ys front.1 back)

pub all_map : {X Y : Type 0} (P : Y → Type 0) (Q : X → Type 0) (f : X → Y) → ((x : X) → Q x → P (f x)) → (xs : List X) → AllByRecursion Q xs → AllByRecursion P (map f xs)
all_map P Q f gives [] all = tt
all_map P Q f gives (x ∷ xs) all = (gives x all.0, all_map P Q f gives xs all.1)

pub all_front : {X : Type 0} (P : X → Type 0) (xs ys : List X) → AllByRecursion P (xs ++ ys) → AllByRecursion P xs
all_front P [] ys all = tt
all_front P (x ∷ xs) ys all = (all.0, all_front P xs ys all.1)

pub all_back : {X : Type 0} (P : X → Type 0) (xs ys : List X) → AllByRecursion P (xs ++ ys) → AllByRecursion P ys
all_back P [] ys all = all
all_back P (x ∷ xs) ys all = all_back P xs ys all.1
