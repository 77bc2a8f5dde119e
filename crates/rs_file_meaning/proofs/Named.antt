-- What stands under the names of a list in which names rise.
use Rattle.std.proofs.Common.{◌≡◌, ◌<◌, ℕ, zero, suc, Bool, true, false, ◌&&◌, cond, T, Some, List, [], ◌∷◌, length, map, filter, get_or, refl, sym, ap, subst, ◌∙◌, arith}
use Rattle.std.specs.Prelude.{Contains}
use Rattle.std.specs.Option.{option_map}
use Rattle.std.specs.Ordering.{eq_by_cmp, is_eq, is_lt}
use Rattle.std.specs.declared.cmp.Ordering.{Ordering}
use Rattle.std.specs.declared.cmp.Ordering.TheVariants.{Less, Equal, Greater}
use Rattle.std.specs.Cmp.{Equal-is, eq_by_cmp_equiv}
use Rattle.std.specs.FinMap as names
use Rattle.std.specs.FinMap.{entries-from_sorted, find, get-from_sorted, is_sorted, len-entries, same_map}
use Rattle.std.specs.FinMap.Entries.{below_all}
use Rattle.std.proofs.lemmas.Bool.{and_parts, and_from, false≢true}
use Rattle.std.proofs.lemmas.List.{length-map}
use Rattle.std.proofs.lemmas.Option.{none-some, same_Some}
use Rattle.rs_catalog.specs.Names.{map_values}
use Rattle.rs_catalog.proofs.NameOrder.{name_cmp-antisymmetric, name_cmp-total}
use Rattle.rs_catalog.proofs.Names.{get-map_values}
use Rattle.rs_catalog_meaning.specs.Meaning.{AreInOrder, named_by}
use Rattle.rs_facts.specs.Fact.{Name, name_cmp}

pub to_T : (b : Bool) → b ≡ true → T b
to_T b e = subst T (sym e) tt

pub same_name : (a b : Name) → eq_by_cmp name_cmp a b ≡ true → a ≡ b
same_name a b e = name_cmp-antisymmetric a b ((Equal-is (name_cmp a b)).0 e)

pub itself : (a : Name) → eq_by_cmp name_cmp a a ≡ true
itself a = (eq_by_cmp_equiv name_cmp-total).refl a

-- the first or a later one
pub first_there : {X : Type 0} (x : X) (xs : List X) → Contains (x ∷ xs) x
first_there x xs = (0, omega arith, refl)

pub later_there : {X : Type 0} (x y : X) (xs : List X) → Contains xs y → Contains (x ∷ xs) y
later_there x y xs there = (suc there.0, omega (arith, there.1), there.2)

-- a later name is another
pub above : (a b : Name) → is_lt (name_cmp a b) ≡ true → eq_by_cmp name_cmp b a ≡ false
above a b less = (eq_by_cmp_equiv name_cmp-total).symm b a ∙ not_equal (name_cmp a b) less
  where
    not_equal : (order : Ordering) → is_lt order ≡ true → is_eq order ≡ false
    not_equal Less e = refl
    not_equal Equal e = absurd (false≢true e)
    not_equal Greater e = refl

-- an item that has a name, and is seen so
pub record HasItem {X Y : Type 0} (name_of : X → Name) (value : X → Y) (xs : List X) (name : Name) (y : Y) : Type 0 where
  pub item : X
  pub there : Contains xs item
  pub named : name_of item ≡ name
  pub is : value item ≡ y

module _ {X Y : Type 0} (name_of : X → Name) (value : X → Y) where
  abbrev pub entry : X → Name × Y
  entry x = (name_of x, value x)

  further : (x : X) (xs : List X) (name : Name) (y : Y) → HasItem name_of value xs name y → HasItem name_of value (x ∷ xs) name y
  further x xs name y has = record { item = has.item; there = later_there x has.item xs has.there; named = has.named; is = has.is }

  pub found_item : (xs : List X) (name : Name) (y : Y) → find name_cmp name (map entry xs) ≡ Some y → HasItem name_of value xs name y
  found_item [] name y found = absurd (none-some y found)
  found_item (x ∷ xs) name y found =
      elim (eq_by_cmp name_cmp name (name_of x)) as (λ b. eq_by_cmp name_cmp name (name_of x) ≡ b → cond b (Some (value x)) (find name_cmp name (map entry xs)) ≡ Some y
      → HasItem name_of value (x ∷ xs) name y) [
        | true ↦ λ same is. record { item = x; there = first_there x xs; named = sym (same_name name (name_of x) same); is = same_Some (value x) y is }
        | false ↦ λ other is. further x xs name y (found_item xs name y is)
      ] refl found

  -- names rise whatever stands under them
  below_values : (name : Name) (xs : List X) → below_all name_cmp name (map entry xs) ≡ below_all name_cmp name (named_by name_of xs)
  below_values name [] = refl
  below_values name (x ∷ xs) = ap (λ b. is_lt (name_cmp name (name_of x)) && b) (below_values name xs)

  sorted_values : (xs : List X) → is_sorted name_cmp (map entry xs) ≡ is_sorted name_cmp (named_by name_of xs)
  sorted_values [] = refl
  sorted_values (x ∷ xs) =
      ap (λ b. b && is_sorted name_cmp (map entry xs)) (below_values (name_of x) xs)
      ∙ ap (λ b. below_all name_cmp (name_of x) (named_by name_of xs) && b) (sorted_values xs)

  pub get_by : (xs : List X) (name : Name) → AreInOrder name_of xs → names.get (names.from_sorted {R = name_cmp} (map entry xs)) name ≡ find name_cmp name (map entry xs)
  get_by xs name order = get-from_sorted name_cmp (map entry xs) name (to_T (is_sorted name_cmp (map entry xs)) (sorted_values xs ∙ order))

  pub item_of : (xs : List X) (name : Name) (y : Y) → AreInOrder name_of xs → names.get (names.from_sorted {R = name_cmp} (map entry xs)) name ≡ Some y
      → HasItem name_of value xs name y
  item_of xs name y order there = found_item xs name y (sym (get_by xs name order) ∙ there)

  -- an item of a list of names that are above another
  pub above_there : (name : Name) (xs : List X) (k : ℕ) (x : X) → below_all name_cmp name (named_by name_of xs) ≡ true → k < length xs → get_or xs k x ≡ x
      → is_lt (name_cmp name (name_of x)) ≡ true
  above_there name [] k x below inside is = absurd (omega (arith, inside))
  above_there name (y ∷ xs) zero x below inside is =
      let parts = and_parts (is_lt (name_cmp name (name_of y))) (below_all name_cmp name (named_by name_of xs)) below in
      subst (λ z. is_lt (name_cmp name (name_of z)) ≡ true) is parts.0
  above_there name (y ∷ xs) (suc k) x below inside is =
      let parts = and_parts (is_lt (name_cmp name (name_of y))) (below_all name_cmp name (named_by name_of xs)) below in
      above_there name xs k x parts.1 (omega (arith, inside)) is

  find_there : (xs : List X) (k : ℕ) (x : X) → is_sorted name_cmp (named_by name_of xs) ≡ true → k < length xs → get_or xs k x ≡ x
      → find name_cmp (name_of x) (map entry xs) ≡ Some (value x)
  find_there [] k x order inside is = absurd (omega (arith, inside))
  find_there (y ∷ xs) zero x order inside is =
      subst (λ z. find name_cmp (name_of z) (map entry (y ∷ xs)) ≡ Some (value z)) is (ap (λ b. cond b (Some (value y)) (find name_cmp (name_of y) (map entry xs))) (itself (name_of y)))
  find_there (y ∷ xs) (suc k) x order inside is =
      let parts = and_parts (below_all name_cmp (name_of y) (named_by name_of xs)) (is_sorted name_cmp (named_by name_of xs)) order in
      let other = above (name_of y) (name_of x) (above_there (name_of y) xs k x parts.0 (omega (arith, inside)) is) in
      ap (λ b. cond b (Some (value y)) (find name_cmp (name_of x) (map entry xs))) other ∙ find_there xs k x parts.1 (omega (arith, inside)) is

  pub get_there : (xs : List X) (x : X) → AreInOrder name_of xs → Contains xs x → names.get (names.from_sorted {R = name_cmp} (map entry xs)) (name_of x) ≡ Some (value x)
  get_there xs x order there = get_by xs (name_of x) order ∙ find_there xs there.0 x order there.1 there.2

  pub len_by : (xs : List X) → AreInOrder name_of xs → names.len (names.from_sorted {R = name_cmp} (map entry xs)) ≡ length xs
  len_by xs order =
      len-entries (names.from_sorted (map entry xs)) ∙ ap length (entries-from_sorted name_cmp (map entry xs) (to_T (is_sorted name_cmp (map entry xs)) (sorted_values xs ∙ order)))
      ∙ length-map xs entry

-- each value by a function
module _ {X Y Z : Type 0} (name_of : X → Name) (value : X → Y) (change : Y → Z) where
  find_changed : (xs : List X) (name : Name)
      → option_map change (find name_cmp name (map (λ x. (name_of x, value x)) xs)) ≡ find name_cmp name (map (λ x. (name_of x, change (value x))) xs)
  find_changed [] name = refl
  find_changed (x ∷ xs) name =
      elim (eq_by_cmp name_cmp name (name_of x)) as (λ b. option_map change (cond b (Some (value x)) (find name_cmp name (map (λ x. (name_of x, value x)) xs)))
      ≡ cond b (Some (change (value x))) (find name_cmp name (map (λ x. (name_of x, change (value x))) xs))) [
        | true ↦ refl
        | false ↦ find_changed xs name
      ]

  pub values_changed : (xs : List X) → AreInOrder name_of xs
      → map_values change (names.from_sorted (map (λ x. (name_of x, value x)) xs)) ≡ names.from_sorted (map (λ x. (name_of x, change (value x))) xs)
  values_changed xs order = same_map name_cmp-total name_cmp-antisymmetric _ _ (λ name.
      get-map_values change (names.from_sorted (map (λ x. (name_of x, value x)) xs)) name
      ∙ ap (option_map change) (get_by name_of value xs name order)
      ∙ find_changed xs name
      ∙ sym (get_by name_of (λ x. change (value x)) xs name order))

-- what a test keeps is in order
module _ {X : Type 0} (name_of : X → Name) (test : X → Bool) where
  below_kept : (name : Name) (xs : List X) → below_all name_cmp name (named_by name_of xs) ≡ true → below_all name_cmp name (named_by name_of (filter test xs)) ≡ true
  below_kept name [] below = refl
  below_kept name (x ∷ xs) below =
      let parts = and_parts (is_lt (name_cmp name (name_of x))) (below_all name_cmp name (named_by name_of xs)) below in
      let rest = below_kept name xs parts.1 in
      elim (test x) as (λ b. below_all name_cmp name (named_by name_of (cond b (x ∷ filter test xs) (filter test xs))) ≡ true) [
        | true ↦ and_from (is_lt (name_cmp name (name_of x))) (below_all name_cmp name (named_by name_of (filter test xs))) parts.0 rest
        | false ↦ rest
      ]

  pub order_kept : (xs : List X) → AreInOrder name_of xs → AreInOrder name_of (filter test xs)
  order_kept [] order = refl
  order_kept (x ∷ xs) order =
      let parts = and_parts (below_all name_cmp (name_of x) (named_by name_of xs)) (is_sorted name_cmp (named_by name_of xs)) order in
      let rest = order_kept xs parts.1 in
      elim (test x) as (λ b. is_sorted name_cmp (named_by name_of (cond b (x ∷ filter test xs) (filter test xs))) ≡ true) [
        | true ↦ and_from (below_all name_cmp (name_of x) (named_by name_of (filter test xs))) (is_sorted name_cmp (named_by name_of (filter test xs))) (below_kept (name_of x) xs parts.0) rest
        | false ↦ rest
      ]
