-- What is so of all elements of a list.
use Rattle.std.proofs.Common.{◌≡◌, Bool, false, List, [], ◌∷◌, ◌++◌, Contains}
use Rattle.std.specs.List.{AllByRecursion, list_any}
use Rattle.std.proofs.lemmas.List.Elements.{All-contains_itself, All-contains, All-weaker, All-from_recursion, recursion_from_All}
use Rattle.rs_machine_laws.proofs.Names.{either_false}

module _ {X : Type 0} where
  pub all_weaker : (P Q : X → Type 0) → ((x : X) → P x → Q x) → (xs : List X) → AllByRecursion P xs → AllByRecursion Q xs
  all_weaker P Q weaker [] all = tt
  all_weaker P Q weaker (x ∷ xs) all = (weaker x all.0, all_weaker P Q weaker xs all.1)

  -- what follows from two things that are so of each
  pub all_both : (P Q R : X → Type 0) → ((x : X) → P x → Q x → R x) → (xs : List X) → AllByRecursion P xs → AllByRecursion Q xs → AllByRecursion R xs
  all_both P Q R follows [] one other = tt
  all_both P Q R follows (x ∷ xs) one other = (follows x one.0 other.0, all_both P Q R follows xs one.1 other.1)

  pub all_append : (P : X → Type 0) (xs ys : List X) → AllByRecursion P xs → AllByRecursion P ys → AllByRecursion P (xs ++ ys)
  all_append P [] ys front back = back
  all_append P (x ∷ xs) ys front back = (front.0, all_append P xs ys front.1 back)

  pub all_front : (P : X → Type 0) (xs ys : List X) → AllByRecursion P (xs ++ ys) → AllByRecursion P xs
  all_front P [] ys all = tt
  all_front P (x ∷ xs) ys all = (all.0, all_front P xs ys all.1)

  pub all_back : (P : X → Type 0) (xs ys : List X) → AllByRecursion P (xs ++ ys) → AllByRecursion P ys
  all_back P [] ys all = all
  all_back P (x ∷ xs) ys all = all_back P xs ys all.1

  pub of_each : (P : X → Type 0) (xs : List X) (x : X) → AllByRecursion P xs → Contains xs x → P x
  of_each P xs x all among = All-contains P xs x (All-from_recursion P xs all) among

  pub from_each : (P : X → Type 0) (xs : List X) → ((x : X) → Contains xs x → P x) → AllByRecursion P xs
  from_each P xs each = recursion_from_All P xs (All-weaker (Contains xs) P each xs (All-contains_itself xs))

  -- none passes
  pub none_pass : (test : X → Bool) (xs : List X) → list_any test xs ≡ false → AllByRecursion (λ x. test x ≡ false) xs
  none_pass test [] none = tt
  none_pass test (x ∷ xs) none = let parts = either_false (test x) (list_any test xs) none in (parts.0, none_pass test xs parts.1)
