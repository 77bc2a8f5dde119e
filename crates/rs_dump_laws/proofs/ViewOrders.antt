-- Views that are in order can be listed so that none names itself or a later one.
use Rattle.std.proofs.Common.{◌≡◌, ◌≢◌, ℕ, ◌≤◌, true, false, ◌⊎◌, inl, inr, List, [], ◌∷◌, refl, sym, subst, arith}
use Rattle.std.specs.Prelude.{Contains, nat_le, if◌then◌else◌}
use Rattle.std.specs.List.{AllByRecursion}
use Rattle.std.proofs.lemmas.Bool.{leb-true, leb-false}
use Rattle.rs_facts.specs.Fact.{Name, Names}
use Rattle.rs_facts.specs.Insert.{same_name}
use Rattle.rs_syntax.specs.Tree.{QueryTree}
use Rattle.rs_machine.specs.Opening.{AreInOrder, names_in, names_query}
use Rattle.rs_dump_laws.specs.Parts.{AreAll, AreOnce, IsUnder, NameViewsBefore}
use Rattle.rs_dump_laws.proofs.Lists.{all_both, all_weaker, at_head, first_or_later, in_tail, none_in_nothing, some_of_any}
use Rattle.rs_dump_laws.proofs.NamedThings.{same_name-true}

-- ---- sorted by a number

module _ {X : Type 0} (key : X → ℕ) where
  abbrev put_in : X → List X → List X
  put_in x [] = x ∷ []
  put_in x (y ∷ ys) = if nat_le (key x) (key y) then x ∷ y ∷ ys else y ∷ put_in x ys

  abbrev pub sorted : List X → List X
  sorted [] = []
  sorted (x ∷ xs) = put_in x (sorted xs)

  -- no later one has a lesser key
  abbrev pub Rise : List X → Type 0
  Rise [] = Unit {0}
  Rise (x ∷ xs) = AllByRecursion (λ y. key x ≤ key y) xs × Rise xs

  all_put : (P : X → Type 0) (x : X) (ys : List X) → P x → AllByRecursion P ys → AllByRecursion P (put_in x ys)
  all_put P x [] one all = (one, tt)
  all_put P x (y ∷ ys) one all = elim (nat_le (key x) (key y)) as (λ b. AllByRecursion P (if b then x ∷ y ∷ ys else y ∷ put_in x ys)) [
    | true ↦ (one, all)
    | false ↦ (all.0, all_put P x ys one all.1)
  ]

  rise_put : (x : X) (ys : List X) → Rise ys → Rise (put_in x ys)
  rise_put x [] rise = (tt, tt)
  rise_put x (y ∷ ys) rise = elim (nat_le (key x) (key y)) as (λ b. nat_le (key x) (key y) ≡ b → Rise (if b then x ∷ y ∷ ys else y ∷ put_in x ys)) [
    | true ↦ λ e. let low = leb-true (key x) (key y) e in ((low, all_weaker (λ z. key y ≤ key z) (λ z. key x ≤ key z) (λ z more. omega (arith, low, more)) ys rise.0), rise)
    | false ↦ λ e. let high = leb-false (key x) (key y) e in (all_put (λ z. key y ≤ key z) x ys (omega (arith, high)) rise.0, rise_put x ys rise.1)
  ] refl

  once_put : (x : X) (ys : List X) → AllByRecursion (λ y. x ≢ y) ys → AreOnce ys → AreOnce (put_in x ys)
  once_put x [] apart once = (tt, tt)
  once_put x (y ∷ ys) apart once = elim (nat_le (key x) (key y)) as (λ b. AreOnce (if b then x ∷ y ∷ ys else y ∷ put_in x ys)) [
    | true ↦ (apart, once)
    | false ↦ (all_put (λ z. y ≢ z) x ys (λ same. apart.0 (sym same)) once.0, once_put x ys apart.1 once.1)
  ]

  in_put : (x : X) (ys : List X) (z : X) → (x ≡ z) ⊎ Contains ys z → Contains (put_in x ys) z
  in_put x [] z (inl same) = subst (Contains (x ∷ [])) same (at_head x [])
  in_put x [] z (inr among) = none_in_nothing _ z among
  in_put x (y ∷ ys) z which = elim (nat_le (key x) (key y)) as (λ b. Contains (if b then x ∷ y ∷ ys else y ∷ put_in x ys) z) [
    | true ↦ elim which [ inl same ↦ subst (Contains (x ∷ y ∷ ys)) same (at_head x (y ∷ ys)) | inr among ↦ in_tail x z (y ∷ ys) among ]
    | false ↦ elim which [
      | inl same ↦ in_tail y z (put_in x ys) (in_put x ys z (inl same))
      | inr among ↦ elim (first_or_later y z ys among) [
        | inl here ↦ subst (Contains (y ∷ put_in x ys)) here (at_head y (put_in x ys))
        | inr later ↦ in_tail y z (put_in x ys) (in_put x ys z (inr later))
      ]
    ]
  ]

  all_sorted : (P : X → Type 0) (xs : List X) → AllByRecursion P xs → AllByRecursion P (sorted xs)
  all_sorted P [] all = tt
  all_sorted P (x ∷ xs) all = all_put P x (sorted xs) all.0 (all_sorted P xs all.1)

  pub rise_sorted : (xs : List X) → Rise (sorted xs)
  rise_sorted [] = tt
  rise_sorted (x ∷ xs) = rise_put x (sorted xs) (rise_sorted xs)

  once_sorted : (xs : List X) → AreOnce xs → AreOnce (sorted xs)
  once_sorted [] once = tt
  once_sorted (x ∷ xs) once = once_put x (sorted xs) (all_sorted (λ y. x ≢ y) xs once.0) (once_sorted xs once.1)

  in_sorted : (xs : List X) (z : X) → Contains xs z → Contains (sorted xs) z
  in_sorted [] z among = among
  in_sorted (x ∷ xs) z among = elim (first_or_later x z xs among) [
    | inl same ↦ in_put x (sorted xs) z (inl same)
    | inr later ↦ in_put x (sorted xs) z (inr (in_sorted xs z later))
  ]

  -- the same things, sorted
  pub sorted_all : (IsSo : X → Type 0) (xs : List X) → AreAll IsSo xs → AreAll IsSo (sorted xs)
  sorted_all IsSo xs all = record { once = once_sorted xs all.once; each = all_sorted IsSo xs all.each; complete = λ x is. in_sorted xs x (all.complete x is) }

-- ---- views by their places

module _ (views : Names QueryTree) (order : AreInOrder views) where
  abbrev place_of : Name × QueryTree → ℕ
  place_of view = order.place view.0

  -- a view does not name one that has no lesser place
  not_named : (view later : Name × QueryTree) → IsUnder views view → IsUnder views later → place_of view ≤ place_of later → names_query later.0 view.1 ≡ false
  not_named view later there also low = elim (names_query later.0 view.1) as (λ b. names_query later.0 view.1 ≡ b → b ≡ false) [
    | true ↦ λ named.
        let one = some_of_any (same_name later.0) (names_in view.1) named in
        let among : Contains (names_in view.1) later.0 = subst (Contains (names_in view.1)) (sym (same_name-true later.0 one.0 one.2)) one.1 in
        let before = order.before view.0 later.0 view.1 there among later.1 also in
        absurd (omega (arith, before, low))
    | false ↦ λ free. refl
  ] refl

  in_order : (list : List (Name × QueryTree)) → AllByRecursion (IsUnder views) list → Rise place_of list → NameViewsBefore list
  in_order [] each rise = tt
  in_order (view ∷ more) each rise = (
    (
      not_named view view each.0 each.0 (omega arith),
      all_both (IsUnder views) (λ later. place_of view ≤ place_of later) (λ later. names_query later.0 view.1 ≡ false) (λ later also low. not_named view later each.0 also low) more each.1 rise.0,
    ),
    in_order more each.1 rise.1,
  )

  -- a list of all views in an order in which none names itself or a later one
  pub record OrderedViews : Type 0 where
    pub list : List (Name × QueryTree)
    pub all : AreAll (IsUnder views) list
    pub before : NameViewsBefore list

  pub ordered : (list : List (Name × QueryTree)) → AreAll (IsUnder views) list → OrderedViews
  ordered list all =
      let sorted_ones = sorted_all place_of (IsUnder views) list all in
      record { list = sorted place_of list; all = sorted_ones; before = in_order (sorted place_of list) sorted_ones.each (rise_sorted place_of list) }
