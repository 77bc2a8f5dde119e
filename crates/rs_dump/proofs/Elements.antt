-- What is so of all elements of a list, and of those that are in it.
use Rattle.std.proofs.Common.{◌≡◌, ◌∙◌, Bool, true, false, cond, ◌⊎◌, inl, inr, List, [], ◌∷◌, ◌++◌, ap, refl, subst, sym}
use Rattle.std.specs.Prelude.{Contains, filter}
use Rattle.std.specs.List.{AllByRecursion, list_any}
use Rattle.std.proofs.lemmas.Bool.{false≢true, or_cases, or_left, or_right}
use Rattle.std.proofs.lemmas.List.Elements.{All-contains, All-contains_itself, All-from_recursion, All-weaker, Contains-append_cases, recursion_from_All}
use Rattle.rs_dump.proofs.Viewed.{at_head, in_tail}

module _ {X : Type 0} where
  pub all_weaker : (P Q : X → Type 0) → ((x : X) → P x → Q x) → (xs : List X) → AllByRecursion P xs → AllByRecursion Q xs
  all_weaker P Q weaker [] all = tt
  all_weaker P Q weaker (x ∷ xs) all = (weaker x all.0, all_weaker P Q weaker xs all.1)

  -- what follows from two things that are so of each
  pub all_both : (P Q R : X → Type 0) → ((x : X) → P x → Q x → R x) → (xs : List X) → AllByRecursion P xs → AllByRecursion Q xs → AllByRecursion R xs
  all_both P Q R follows [] one other = tt
  all_both P Q R follows (x ∷ xs) one other = (follows x one.0 other.0, all_both P Q R follows xs one.1 other.1)

  pub all_front : (P : X → Type 0) (xs ys : List X) → AllByRecursion P (xs ++ ys) → AllByRecursion P xs
  all_front P [] ys all = tt
  all_front P (x ∷ xs) ys all = (all.0, all_front P xs ys all.1)

  pub all_back : (P : X → Type 0) (xs ys : List X) → AllByRecursion P (xs ++ ys) → AllByRecursion P ys
  all_back P [] ys all = all
  all_back P (x ∷ xs) ys all = all_back P xs ys all.1

  pub of_each : (P : X → Type 0) (xs : List X) (x : X) → AllByRecursion P xs → Contains xs x → P x
  of_each P xs x all among = All-contains P xs x (All-from_recursion P xs all) among

  pub from_each : (P : X → Type 0) (xs : List X) → ((x : X) → Contains xs x → P x) → AllByRecursion P xs
  from_each P xs each = recursion_from_All P xs (All-weaker (Contains xs) P each xs (All-contains_itself xs))

  pub none_in_nothing : (P : Type 0) (x : X) → Contains [] x → P
  none_in_nothing P x among = of_each (λ y. P) [] x tt among

  -- the first, or in the rest
  pub first_or_later : (x y : X) (xs : List X) → Contains (x ∷ xs) y → (x ≡ y) ⊎ Contains xs y
  first_or_later x y xs among = elim (Contains-append_cases (x ∷ []) xs y among) [
    | inl here ↦ inl (of_each (λ z. x ≡ z) (x ∷ []) y (refl, tt) here)
    | inr later ↦ inr later
  ]

  -- ---- tests

  -- one of them passes
  pub record Passes (test : X → Bool) (xs : List X) : Type 0 where
    pub one : X
    pub among : Contains xs one
    pub is : test one ≡ true

  pub some_of_any : (test : X → Bool) (xs : List X) → list_any test xs ≡ true → Passes test xs
  some_of_any test [] is = absurd (false≢true is)
  some_of_any test (x ∷ xs) is = elim (or_cases (test x) (list_any test xs) is) [
    | inl here ↦ record { one = x; among = at_head x xs; is = here }
    | inr later ↦ let rest = some_of_any test xs later in record { one = rest.one; among = in_tail x rest.one xs rest.among; is = rest.is }
  ]

  pub any_from : (test : X → Bool) (xs : List X) (x : X) → Contains xs x → test x ≡ true → list_any test xs ≡ true
  any_from test [] x among is = none_in_nothing (false ≡ true) x among
  any_from test (y ∷ xs) x among is = elim (first_or_later y x xs among) [
    | inl same ↦ or_left (test y) (list_any test xs) (ap test same ∙ is)
    | inr later ↦ or_right (test y) (list_any test xs) (any_from test xs x later is)
  ]

  -- ---- filtered

  pub in_filtered : (test : X → Bool) (xs : List X) (x : X) → Contains xs x → test x ≡ true → Contains (filter test xs) x
  in_filtered test [] x among is = among
  in_filtered test (y ∷ xs) x among is = elim (test y) as (λ b. test y ≡ b → Contains (cond b (y ∷ filter test xs) (filter test xs)) x) [
    | true ↦ λ passes. elim (first_or_later y x xs among) [
      | inl same ↦ subst (Contains (y ∷ filter test xs)) same (at_head y (filter test xs))
      | inr later ↦ in_tail y x (filter test xs) (in_filtered test xs x later is)
    ]
    | false ↦ λ fails. elim (first_or_later y x xs among) [
      | inl same ↦ absurd (false≢true (sym fails ∙ ap test same ∙ is))
      | inr later ↦ in_filtered test xs x later is
    ]
  ] refl

  -- by tests that are alike on each of them
  pub filter_alike : (one other : X → Bool) (xs : List X) → AllByRecursion (λ x. one x ≡ other x) xs → filter one xs ≡ filter other xs
  filter_alike one other [] alike = refl
  filter_alike one other (x ∷ xs) alike =
      let rest = filter_alike one other xs alike.1 in λ i. cond (alike.0 i) (x ∷ rest i) (rest i)
