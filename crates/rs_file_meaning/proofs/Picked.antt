-- Items that are picked out of lists: by a test, by a number, and beside one another.
use Rattle.std.proofs.Common.{◌≡◌, ◌<◌, ◌≤◌, ◌==◌, ℕ, zero, suc, Bool, true, false, cond, List, [], ◌∷◌, length, map, filter, get_or, refl, sym, ap, subst, ◌∙◌, arith}
use Rattle.std.specs.Prelude.{Contains, if◌then◌else◌}
use Rattle.std.specs.List.{AllByRecursion, AllZip}
use Rattle.std.proofs.lemmas.Bool.{eqb-false, eqb-true, le-leb}
use Rattle.std.proofs.lemmas.List.Elements.{All-contains, All-contains_itself, All-filter, All-from_recursion, filter_passes, recursion_from_All}
use Rattle.rs_catalog_pages.specs.Items.{RouteItem, TableItem}
use Rattle.rs_file.specs.Contents.{TableContents}
use Rattle.rs_page_owners.specs.Counts.{one_at, times}
use Rattle.rs_page_owners.proofs.Moving.{one_at-same}
use Rattle.rs_catalog_pages.proofs.Counting.{times-cons}
use Rattle.rs_file_meaning.specs.Seen.{born_by, events_with}
use Rattle.rs_file_meaning.proofs.Lists.{shown_each}
use Rattle.rs_file_meaning.proofs.Named.{first_there, later_there}

-- ---- by a test

module _ {X : Type 0} (test : X → Bool) where
  pub kept_there : (xs : List X) (x : X) → Contains (filter test xs) x → Contains xs x
  kept_there xs x there = All-contains (Contains xs) (filter test xs) x (All-filter test (Contains xs) xs (All-contains_itself xs)) there

  pub kept_passes : (xs : List X) (x : X) → Contains (filter test xs) x → test x ≡ true
  kept_passes xs x there = All-contains (λ y. test y ≡ true) (filter test xs) x (filter_passes test xs) there

  -- what is so of each that the test keeps is so of one that passes
  pub each_kept : (P : X → Type 0) (xs : List X) (x : X) → AllByRecursion P (filter test xs) → Contains xs x → test x ≡ true → P x
  each_kept P xs x all there passes = at xs there.0 there.1 there.2 all where
    at : (xs : List X) (k : ℕ) → k < length xs → get_or xs k x ≡ x → AllByRecursion P (filter test xs) → P x
    at [] k inside is all = absurd (omega (arith, inside))
    at (y ∷ xs) zero inside is all =
        let here : test y ≡ true = subst (λ z. test z ≡ true) (sym is) passes in
        let rest : AllByRecursion P (y ∷ filter test xs) = subst (λ b. AllByRecursion P (cond b (y ∷ filter test xs) (filter test xs))) here all in
        subst P is rest.0
    at (y ∷ xs) (suc k) inside is all =
        at xs k (omega (arith, inside)) is (elim (test y) as (λ b. AllByRecursion P (cond b (y ∷ filter test xs) (filter test xs)) → AllByRecursion P (filter test xs)) [
          | true ↦ λ all. all.1
          | false ↦ λ all. all
        ] all)

  pub kept_in : (xs : List X) (x : X) → Contains xs x → test x ≡ true → Contains (filter test xs) x
  kept_in xs x there passes = each_kept (Contains (filter test xs)) xs x (recursion_from_All (Contains (filter test xs)) (filter test xs) (All-contains_itself (filter test xs))) there passes

pub born_all : (version : ℕ) (routes : List RouteItem) → AllByRecursion (λ route. route.born ≤ version) routes → born_by version routes ≡ routes
born_all version [] all = refl
born_all version (route ∷ routes) all =
    ap (λ b. cond b (route ∷ born_by version routes) (born_by version routes)) (le-leb route.born version all.0)
    ∙ ap (λ l. route ∷ l) (born_all version routes all.1)

-- ---- by what is seen of them

pub record HasSource {X Y : Type 0} (seen : X → Y) (xs : List X) (y : Y) : Type 0 where
  pub source : X
  pub there : Contains xs source
  pub is : seen source ≡ y

pub source_of : {X Y : Type 0} (seen : X → Y) (xs : List X) (y : Y) → Contains (map seen xs) y → HasSource seen xs y
source_of {X} {Y} seen xs y there = at xs there.0 there.1 there.2 where
  at : (xs : List X) (k : ℕ) → k < length (map seen xs) → get_or (map seen xs) k y ≡ y → HasSource seen xs y
  at [] k inside is = absurd (omega (arith, inside))
  at (x ∷ xs) zero inside is = record { source = x; there = first_there x xs; is = is }
  at (x ∷ xs) (suc k) inside is =
      let rest = at xs k (omega (arith, inside)) is in
      record { source = rest.source; there = later_there x rest.source xs rest.there; is = rest.is }

pub shown_there : {X Y : Type 0} (seen : X → Y) (xs : List X) (x : X) → Contains xs x → Contains (map seen xs) (seen x)
shown_there seen xs x there =
    All-contains (λ y. Contains (map seen xs) (seen y)) xs x (All-from_recursion (λ y. Contains (map seen xs) (seen y)) xs
    (shown_each seen (Contains (map seen xs)) xs (recursion_from_All (Contains (map seen xs)) (map seen xs) (All-contains_itself (map seen xs))))) there

-- ---- by a number

module _ {X : Type 0} (number_of : X → ℕ) where
  some_there : (xs : List X) (k : ℕ) (x : X) → k < length xs → get_or xs k x ≡ x → 1 ≤ times (map number_of xs) (number_of x)
  some_there [] k x inside is = absurd (omega (arith, inside))
  some_there (y ∷ xs) zero x inside is =
      omega (arith, times-cons (number_of y) (map number_of xs) (number_of x), ap (λ z. one_at (number_of z) (number_of x)) is, one_at-same (number_of x))
  some_there (y ∷ xs) (suc k) x inside is =
      omega (arith, times-cons (number_of y) (map number_of xs) (number_of x), some_there xs k x (omega (arith, inside)) is)

  -- one that is first has its number once more
  pub first_too : (y x : X) (xs : List X) (k : ℕ) → k < length xs → get_or xs k x ≡ x → number_of y ≡ number_of x → times (map number_of (y ∷ xs)) (number_of x) ≤ 1 → ⊥
  first_too y x xs k inside is same once =
      omega (arith, times-cons (number_of y) (map number_of xs) (number_of x), ap (λ n. one_at n (number_of x)) same, one_at-same (number_of x), some_there xs k x inside is, once)

  pub same_numbered : (xs : List X) (x y : X) → Contains xs x → Contains xs y → number_of x ≡ number_of y → times (map number_of xs) (number_of x) ≤ 1 → x ≡ y
  same_numbered xs x y one other same once = at xs one.0 other.0 one.1 one.2 other.1 other.2 once where
    at : (xs : List X) (i j : ℕ) → i < length xs → get_or xs i x ≡ x → j < length xs → get_or xs j y ≡ y → times (map number_of xs) (number_of x) ≤ 1 → x ≡ y
    at [] i j inside is within are once = absurd (omega (arith, inside))
    at (z ∷ xs) zero zero inside is within are once = sym is ∙ are
    at (z ∷ xs) zero (suc j) inside is within are once =
        absurd (first_too z y xs j (omega (arith, within)) are (ap number_of is ∙ same) (subst (λ n. times (map number_of (z ∷ xs)) n ≤ 1) same once))
    at (z ∷ xs) (suc i) zero inside is within are once =
        absurd (first_too z x xs i (omega (arith, inside)) is (ap number_of are ∙ sym same) once)
    at (z ∷ xs) (suc i) (suc j) inside is within are once =
        at xs i j (omega (arith, inside)) is (omega (arith, within)) are (omega (arith, once, times-cons (number_of z) (map number_of xs) (number_of x)))

-- ---- beside one another

pub beside : {X Y : Type 0} (R : X → Y → Type 0) (xs : List X) (ys : List Y) (y : Y) → AllZip R xs ys → Contains ys y → (x : X) × R x y
beside {X} {Y} R xs ys y all there = at xs ys there.0 there.1 there.2 all where
  at : (xs : List X) (ys : List Y) (k : ℕ) → k < length ys → get_or ys k y ≡ y → AllZip R xs ys → (x : X) × R x y
  at xs [] k inside is all = absurd (omega (arith, inside))
  at [] (z ∷ ys) k inside is all = absurd all
  at (x ∷ xs) (z ∷ ys) zero inside is all = (x, subst (R x) is all.0)
  at (x ∷ xs) (z ∷ ys) (suc k) inside is all = at xs ys k (omega (arith, inside)) is all.1

pub as_many : {X Y : Type 0} (R : X → Y → Type 0) (xs : List X) (ys : List Y) → AllZip R xs ys → length xs ≡ length ys
as_many R [] [] all = refl
as_many R [] (y ∷ ys) all = absurd all
as_many R (x ∷ xs) [] all = absurd all
as_many R (x ∷ xs) (y ∷ ys) all = ap suc (as_many R xs ys all.1)

-- the table of an item, whose number no other has
pub record HasTable (P Q : TableItem → TableContents → Type 0) (R : TableContents → Type 0) (items : List TableItem) (tables : List TableContents) (item : TableItem) : Type 0 where
  pub table : TableContents
  pub events : events_with items tables item.number ≡ table.events
  pub one : P item table
  pub other : Q item table
  pub third : R table

module _ (P Q : TableItem → TableContents → Type 0) (R : TableContents → Type 0) (item : TableItem) where
  abbrev numbers : List TableItem → List ℕ
  numbers = map (λ (table : TableItem). table.number)

  table_at : (items : List TableItem) (tables : List TableContents) (k : ℕ) → k < length items → get_or items k item ≡ item → AllZip P items tables → AllZip Q items tables
      → AllByRecursion R tables → times (numbers items) item.number ≤ 1 → HasTable P Q R items tables item
  table_at [] tables k inside is one other third once = absurd (omega (arith, inside))
  table_at (i ∷ items) [] k inside is one other third once = absurd one
  table_at (i ∷ items) (t ∷ tables) zero inside is one other third once = record {
    table = t;
    events = elim (i.number == item.number) as (λ b. (i.number == item.number) ≡ b → (if b then t.events else events_with items tables item.number) ≡ t.events) [
      | true ↦ λ same. refl
      | false ↦ λ apart. absurd (eqb-false i.number item.number apart (ap (λ (i : TableItem). i.number) is))
    ] refl;
    one = subst (λ i. P i t) is one.0;
    other = subst (λ i. Q i t) is other.0;
    third = third.0;
  }
  table_at (i ∷ items) (t ∷ tables) (suc k) inside is one other third once =
      let rest = table_at items tables k (omega (arith, inside)) is one.1 other.1 third.1 (omega (arith, once, times-cons i.number (numbers items) item.number)) in
      record {
        table = rest.table;
        events = elim (i.number == item.number) as (λ b. (i.number == item.number) ≡ b → (if b then t.events else events_with items tables item.number) ≡ rest.table.events) [
          | true ↦ λ same. absurd (first_too (λ (table : TableItem). table.number) i item items k (omega (arith, inside)) is (eqb-true i.number item.number same) once)
          | false ↦ λ apart. rest.events
        ] refl;
        one = rest.one;
        other = rest.other;
        third = rest.third;
      }

  pub table_of : (items : List TableItem) (tables : List TableContents) → Contains items item → AllZip P items tables → AllZip Q items tables
      → AllByRecursion R tables → times (numbers items) item.number ≤ 1 → HasTable P Q R items tables item
  table_of items tables there = table_at items tables there.0 there.1 there.2
