-- A map that takes the items of a list one after another, in the order of their names.
use Rattle.std.proofs.Common.{◌≡◌, ◌<◌, ◌≤◌, ◌+◌, ℕ, zero, suc, true, false, cond, Some, None, is_some, List, [], ◌∷◌, ◌++◌, length, map, take, get_or, refl, sym, ap, ◌∙◌, arith}
use Rattle.std.specs.Prelude.{Contains}
use Rattle.std.specs.List.{AllByRecursion}
use Rattle.std.specs.Ordering.{eq_by_cmp, is_lt}
use Rattle.std.specs.FinMap as names
use Rattle.std.specs.FinMap.{find, get-empty, get-insert, is_sorted, same_map}
use Rattle.std.specs.FinMap.Entries.{below_all, find-append}
use Rattle.std.proofs.lemmas.Bool.{and_parts, and_from}
use Rattle.std.proofs.lemmas.List.{get_or-map, get_or-take, get_or_default, length-map, map-append, take_all}
use Rattle.std.proofs.lemmas.List.Elements.{All-contains, All-from_recursion}
use Rattle.std.proofs.lemmas.Option.{none-some}
use Rattle.rs_catalog.proofs.NameOrder.{name_cmp-antisymmetric, name_cmp-total}
use Rattle.rs_catalog.specs.Definitions.{IsFree}
use Rattle.rs_catalog_meaning.specs.Meaning.{AreInOrder, named_by}
use Rattle.rs_facts.specs.Fact.{Name, Names, name_cmp}
use Rattle.rs_file_meaning.proofs.Named.{above, above_there, entry, get_by, item_of}
use Rattle.rs_file_meaning.proofs.Picked.{same_numbered}
use Rattle.rs_machine.specs.State.{has}
use Rattle.rs_page_owners.specs.Counts.{times}

-- an item that was read, as it is seen
pub said_at : {X Y : Type 0} (said : X → Y) (xs : List X) (i : ℕ) (x : X) → i < length xs → x ≡ get_or xs i x → (i < length (map said xs)) × (get_or (map said xs) i (said x) ≡ said x)
said_at said xs i x inside is = (omega (arith, inside, length-map xs said), get_or-map said xs i x (said x) inside ∙ ap said (sym is))

-- what is so of each is so of it
pub each_said : {X Y : Type 0} (said : X → Y) (IsSo : Y → Type 0) (xs : List X) (i : ℕ) (x : X) → i < length xs → x ≡ get_or xs i x → AllByRecursion IsSo (map said xs) → IsSo (said x)
each_said said IsSo xs i x inside is all =
    let at = said_at said xs i x inside is in
    All-contains IsSo (map said xs) (said x) (All-from_recursion IsSo (map said xs) all) (i, at.0, at.1)

-- of an item where it stands
pub each_at : {X Y : Type 0} (said : X → Y) (IsSo : Y → Type 0) (xs : List X) (i : ℕ) (d : X) → i < length xs → AllByRecursion IsSo (map said xs) → IsSo (said (get_or xs i d))
each_at said IsSo xs i d inside all = each_said said IsSo xs i (get_or xs i d) inside (get_or_default xs i d (get_or xs i d) inside) all

pub said_there : {X Y : Type 0} (said : X → Y) (xs : List X) (x : X) → Contains xs x → Contains (map said xs) (said x)
said_there said xs x there =
    let at = said_at said xs there.0 x there.1 (sym there.2) in
    (there.0, at.0, at.1)

-- one more of a list
pub taken-more : {X : Type 0} (xs : List X) (i : ℕ) (x : X) → i < length xs → get_or xs i x ≡ x → take (suc i) xs ≡ take i xs ++ x ∷ []
taken-more [] i x inside is = absurd (omega (arith, inside))
taken-more (y ∷ xs) zero x inside is = ap (λ z. z ∷ []) is
taken-more (y ∷ xs) (suc i) x inside is = ap (λ rest. y ∷ rest) (taken-more xs i x (omega (arith, inside)) is)

length-take-most : {X : Type 0} (xs : List X) (i : ℕ) → length (take i xs) ≤ i
length-take-most [] zero = omega arith
length-take-most [] (suc i) = omega arith
length-take-most (x ∷ xs) zero = omega arith
length-take-most (x ∷ xs) (suc i) = omega (arith, length-take-most xs i)

length-take-below : {X : Type 0} (xs : List X) (i : ℕ) → length (take i xs) ≤ length xs
length-take-below [] zero = omega arith
length-take-below [] (suc i) = omega arith
length-take-below (x ∷ xs) zero = omega arith
length-take-below (x ∷ xs) (suc i) = omega (arith, length-take-below xs i)

-- one more of a list that is seen by two functions
pub mapped-more : {A B C : Type 0} (f : A → C) (g : B → C) (made : List A) (one : A) (xs : List B) (i : ℕ) (x : B) → i < length xs → x ≡ get_or xs i x
    → map f made ≡ map g (take i xs) → f one ≡ g x → map f (made ++ one ∷ []) ≡ map g (take (i + 1) xs)
mapped-more f g made one xs i x inside is same of =
    let next : suc i ≡ i + 1 = omega arith in
    map-append f made (one ∷ [])
    ∙ ap (λ l. l ++ f one ∷ []) same
    ∙ ap (λ y. map g (take i xs) ++ y ∷ []) of
    ∙ sym (map-append g (take i xs) (x ∷ []))
    ∙ ap (map g) (sym (taken-more xs i x inside (sym is)))
    ∙ ap (λ n. map g (take n xs)) next

pub mapped-at : {A B C : Type 0} (f : A → C) (g : B → C) (made : List A) (one : A) (xs : List B) (i : ℕ) (d : B) → i < length xs
    → map f made ≡ map g (take i xs) → f one ≡ g (get_or xs i d) → map f (made ++ one ∷ []) ≡ map g (take (i + 1) xs)
mapped-at f g made one xs i d inside same of = mapped-more f g made one xs i (get_or xs i d) inside (get_or_default xs i d (get_or xs i d) inside) same of

-- what was taken is there
taken-there : {X : Type 0} (xs : List X) (i : ℕ) (x : X) → Contains (take i xs) x → Contains xs x
taken-there xs i x there =
    (there.0, omega (arith, there.1, length-take-below xs i), sym (get_or-take i xs there.0 x (omega (arith, there.1, length-take-most xs i))) ∙ there.2)

module _ {X Y : Type 0} (name_of : X → Name) (value : X → Y) where
  -- the map of the first of them
  abbrev pub so_far : List X → ℕ → Names Y
  so_far xs i = names.from_sorted {R = name_cmp} (map (entry name_of value) (take i xs))

  below-taken : (name : Name) (xs : List X) (i : ℕ) → below_all name_cmp name (named_by name_of xs) ≡ true → below_all name_cmp name (named_by name_of (take i xs)) ≡ true
  below-taken name [] zero below = refl
  below-taken name [] (suc i) below = refl
  below-taken name (x ∷ xs) zero below = refl
  below-taken name (x ∷ xs) (suc i) below =
      let parts = and_parts (is_lt (name_cmp name (name_of x))) (below_all name_cmp name (named_by name_of xs)) below in
      and_from (is_lt (name_cmp name (name_of x))) (below_all name_cmp name (named_by name_of (take i xs))) parts.0 (below-taken name xs i parts.1)

  order-taken : (xs : List X) (i : ℕ) → AreInOrder name_of xs → AreInOrder name_of (take i xs)
  order-taken [] zero order = refl
  order-taken [] (suc i) order = refl
  order-taken (x ∷ xs) zero order = refl
  order-taken (x ∷ xs) (suc i) order =
      let parts = and_parts (below_all name_cmp (name_of x) (named_by name_of xs)) (is_sorted name_cmp (named_by name_of xs)) order in
      and_from (below_all name_cmp (name_of x) (named_by name_of (take i xs))) (is_sorted name_cmp (named_by name_of (take i xs))) (below-taken (name_of x) xs i parts.0) (order-taken xs i parts.1)

  -- none of the first has the name of the next
  pub not_found : (xs : List X) (i : ℕ) (x : X) → AreInOrder name_of xs → i < length xs → get_or xs i x ≡ x → find name_cmp (name_of x) (map (entry name_of value) (take i xs)) ≡ None
  not_found [] i x order inside is = absurd (omega (arith, inside))
  not_found (y ∷ xs) zero x order inside is = refl
  not_found (y ∷ xs) (suc i) x order inside is =
      let parts = and_parts (below_all name_cmp (name_of y) (named_by name_of xs)) (is_sorted name_cmp (named_by name_of xs)) order in
      let other = above (name_of y) (name_of x) (above_there name_of value (name_of y) xs i x parts.0 (omega (arith, inside)) is) in
      ap (λ b. cond b (Some (value y)) (find name_cmp (name_of x) (map (entry name_of value) (take i xs)))) other ∙ not_found xs i x parts.1 (omega (arith, inside)) is

  module _ (xs : List X) (i : ℕ) (x : X) (order : AreInOrder name_of xs) (inside : i < length xs) (is : get_or xs i x ≡ x) where
    none : names.get (so_far xs i) (name_of x) ≡ None
    none = get_by name_of value (take i xs) (name_of x) (order-taken xs i order) ∙ not_found xs i x order inside is

    -- the next name is new
    pub next-new : has (so_far xs i) (name_of x) ≡ false
    next-new = ap is_some none

    -- the next number is free, where each item has a number of its own
    pub next-free : (number_of : X → ℕ) (number_in : Y → ℕ) → ((x : X) → number_in (value x) ≡ number_of x) → ((n : ℕ) → times (map number_of xs) n ≤ 1)
        → IsFree number_in (so_far xs i) (number_in (value x))
    next-free number_of number_in numbered once name y there same =
        let has = item_of name_of value (take i xs) name y (order-taken xs i order) there in
        let numbers : number_of has.item ≡ number_of x = sym (numbered has.item) ∙ ap number_in has.is ∙ same ∙ numbered x in
        let item : has.item ≡ x = same_numbered number_of xs has.item x (taken-there xs i has.item has.there) (i, inside, is) numbers (once (number_of has.item)) in
        none-some y (sym none ∙ ap (names.get (so_far xs i)) (ap name_of (sym item) ∙ has.named) ∙ there)

    -- with the next
    pub next-more : so_far xs (suc i) ≡ names.insert (so_far xs i) (name_of x) (value x)
    next-more = same_map name_cmp-total name_cmp-antisymmetric _ _ (λ q.
        get_by name_of value (take (suc i) xs) q (order-taken xs (suc i) order)
        ∙ ap (λ l. find name_cmp q (map (entry name_of value) l)) (taken-more xs i x inside is)
        ∙ ap (find name_cmp q) (map-append (entry name_of value) (take i xs) (x ∷ []))
        ∙ find-append name_cmp name_cmp-total (map (entry name_of value) (take i xs)) (name_of x) (value x) q (not_found xs i x order inside is)
        ∙ ap (cond (eq_by_cmp name_cmp q (name_of x)) (Some (value x))) (sym (get_by name_of value (take i xs) q (order-taken xs i order)))
        ∙ sym (get-insert name_cmp-total (so_far xs i) (name_of x) (value x) q))

    -- the step of a loop
    pub step : (key : Name) (item : Y) → key ≡ name_of x → item ≡ value x → names.insert (so_far xs i) key item ≡ so_far xs (i + 1)
    step key item named valued =
        let next : suc i ≡ i + 1 = omega arith in
        ap (λ k. names.insert (so_far xs i) k item) named ∙ ap (names.insert (so_far xs i) (name_of x)) valued ∙ sym next-more ∙ ap (so_far xs) next

  -- none of them
  pub nothing : (xs : List X) → so_far xs 0 ≡ names.empty
  nothing xs = same_map name_cmp-total name_cmp-antisymmetric _ _ (λ q. get_by name_of value [] q refl ∙ sym (get-empty name_cmp q))

  -- all of them
  pub whole : (xs : List X) (i : ℕ) → length xs ≤ i → so_far xs i ≡ names.from_sorted (map (entry name_of value) xs)
  whole xs i all = ap (λ l. names.from_sorted {R = name_cmp} (map (entry name_of value) l)) (take_all i xs all)
