-- Laws of numbers that are free or taken, and of names that are others.
use Rattle.std.proofs.Common.{◌≡◌, ℕ, true, false, cond, nat_eq, ◌⊎◌, ⊎_elim, inl, inr, Some, None, refl, sym, ap, ◌∙◌}
use Rattle.std.proofs.lemmas.Bool.Decides.{Decides-eqb}
use Rattle.std.specs.Ordering.{eq_by_cmp}
use Rattle.std.specs.Cmp.{eq_by_cmp_equiv}
use Rattle.std.specs.FinMap as names
use Rattle.std.specs.FinMap.{get-insert, get-remove}
use Rattle.rs_facts.specs.Fact.{Name, Names, name_cmp}
use Rattle.rs_catalog.specs.Definitions.{IsFree, AreNumbered}
use Rattle.rs_catalog.proofs.NameOrder.{name_cmp-total}
use Rattle.rs_catalog.proofs.MapLaws.{same_name-true, none_some, some_same, get-insert_here}

pub false_true : {P : Type 0} → false ≡ true → P
false_true e = cc

-- ---- numbers

pub same_number : (a b : ℕ) → nat_eq a b ≡ true → a ≡ b
same_number a b e = (Decides-eqb a b).0 e

pub number_itself : (n : ℕ) → nat_eq n n ≡ true
number_itself n = (Decides-eqb n n).1 refl

-- two numbers are one or not
pub cases_number : (a b : ℕ) → (a ≡ b) ⊎ (nat_eq a b ≡ false)
cases_number a b = elim (nat_eq a b) as (λ t. nat_eq a b ≡ t → (a ≡ b) ⊎ (nat_eq a b ≡ false)) [
  | true ↦ λ e. inl (same_number a b e)
  | false ↦ λ e. inr e
] refl

pub other_number : (a b : ℕ) → (a ≡ b → ⊥) → nat_eq a b ≡ false
other_number a b apart = ⊎_elim (λ same. absurd (apart same)) (λ off. off) (cases_number a b)

pub apart_numbers : (a b : ℕ) → nat_eq a b ≡ false → a ≡ b → ⊥
apart_numbers a b off same = false_true (sym off ∙ ap (λ n. nat_eq n b) same ∙ number_itself b)

-- ---- names

pub name_itself : (a b : Name) → a ≡ b → eq_by_cmp name_cmp a b ≡ true
name_itself a b same = ap (λ n. eq_by_cmp name_cmp n b) same ∙ (eq_by_cmp_equiv name_cmp-total).refl b

module _ {X : Type 0} (number_of : X → ℕ) where
  -- what stands under another name has another number
  pub apart_from_other : (items : Names X) → AreNumbered number_of items → (a b : Name) (x y : X) → eq_by_cmp name_cmp a b ≡ false → names.get items a ≡ Some x → names.get items b ≡ Some y → number_of x ≡ number_of y → ⊥
  apart_from_other items numbered a b x y off at there same = false_true (sym off ∙ name_itself a b (numbered a b x y at there same))

  -- what is left after a name was taken out has another number than what stood there
  pub apart_from_removed : (items : Names X) → AreNumbered number_of items → (key q : Name) (value item : X) → names.get items key ≡ Some value → names.get (names.remove items key) q ≡ Some item → number_of item ≡ number_of value → ⊥
  apart_from_removed items numbered key q value item there at same =
      elim (eq_by_cmp name_cmp q key) as (λ b. eq_by_cmp name_cmp q key ≡ b → cond b None (names.get items q) ≡ Some item → ⊥) [
        | true ↦ λ e f. none_some item f
        | false ↦ λ e f. apart_from_other items numbered q key item value e f there same
      ] refl (sym (get-remove name_cmp-total items key q) ∙ at)

  -- what has the number of what stands under a name is it
  pub only_of_number : (items : Names X) → AreNumbered number_of items → (a b : Name) (x y : X) → names.get items a ≡ Some x → names.get items b ≡ Some y → number_of x ≡ number_of y → x ≡ y
  only_of_number items numbered a b x y at there same = some_same x y (sym at ∙ ap (names.get items) (numbered a b x y at there same) ∙ there)

  -- what stands under a name has not a number that is free
  pub apart_from_free : (items : Names X) (n : ℕ) (name : Name) (item : X) → IsFree number_of items n → names.get items name ≡ Some item → nat_eq (number_of item) n ≡ false
  apart_from_free items n name item free there = other_number (number_of item) n (free name item there)

  -- another name is seen as before
  pub get-other_insert : (items : Names X) (key name : Name) (value : X) → (name ≡ key → ⊥) → names.get (names.insert items key value) name ≡ names.get items name
  get-other_insert items key name value apart = get-insert name_cmp-total items key value name ∙
      elim (eq_by_cmp name_cmp name key) as (λ b. eq_by_cmp name_cmp name key ≡ b → cond b (Some value) (names.get items name) ≡ names.get items name) [
        | true ↦ λ e. absurd (apart (same_name-true name key e))
        | false ↦ λ e. refl
      ] refl

  pub get-other_remove : (items : Names X) (key name : Name) → (name ≡ key → ⊥) → names.get (names.remove items key) name ≡ names.get items name
  get-other_remove items key name apart = get-remove name_cmp-total items key name ∙
      elim (eq_by_cmp name_cmp name key) as (λ b. eq_by_cmp name_cmp name key ≡ b → cond b None (names.get items name) ≡ names.get items name) [
        | true ↦ λ e. absurd (apart (same_name-true name key e))
        | false ↦ λ e. refl
      ] refl

  -- a number that is free where a new name took a value was free before
  pub free_before_insert : (items : Names X) (key : Name) (value : X) (n : ℕ) → names.get items key ≡ None → IsFree number_of (names.insert items key value) n → IsFree number_of items n
  free_before_insert items key value n new free name item there same =
      free name item (get-other_insert items key name value (λ one. none_some item (sym new ∙ sym (ap (names.get items) one) ∙ there)) ∙ there) same

  -- the value's own number is not free then
  pub apart_from_own : (items : Names X) (key : Name) (value : X) (n : ℕ) → IsFree number_of (names.insert items key value) n → n ≡ number_of value → ⊥
  apart_from_own items key value n free same = free key value (get-insert_here items key value) (sym same)

  -- a number that is free where a name was taken out was free before, or is its value's
  pub free_before_remove : (items : Names X) (key : Name) (value : X) (n : ℕ) → names.get items key ≡ Some value → nat_eq n (number_of value) ≡ false → IsFree number_of (names.remove items key) n → IsFree number_of items n
  free_before_remove items key value n there off free name item at same =
      free name item (get-other_remove items key name (λ one.
      let own : item ≡ value = some_same item value (sym at ∙ ap (names.get items) one ∙ there) in
      apart_numbers n (number_of value) off (sym same ∙ ap number_of own)) ∙ at) same
