-- The entries of maps by name, as lists of items.
use Rattle.std.proofs.Common.{◌≡◌, ◌<◌, ◌≤◌, ℕ, zero, suc, Bool, true, false, ◌&&◌, cond, T, Some, None, List, [], ◌∷◌, length, map, filter, get_or, refl, sym, ap, subst, ◌∙◌, arith, inl, inr}
use Rattle.std.specs.Prelude.{Contains}
use Rattle.std.specs.List.{AllByRecursion}
use Rattle.std.specs.Option.{option_map}
use Rattle.std.specs.Ordering.{eq_by_cmp, is_lt}
use Rattle.std.specs.FinMap as names
use Rattle.std.specs.FinMap.{entries-from_sorted, entries_sorted, find, get-entries, is_sorted, len-entries, same_entries_map}
use Rattle.std.specs.FinMap.Entries.{below_all}
use Rattle.std.proofs.lemmas.Bool.{and_parts, false≢true}
use Rattle.std.proofs.lemmas.List.{length-map}
use Rattle.std.proofs.lemmas.Simd.{map-map}
use Rattle.std.proofs.lemmas.Option.{none-some, same_Some}
use Rattle.rs_catalog.specs.Definitions.{AreNumbered}
use Rattle.rs_catalog.specs.Names.{map_values}
use Rattle.rs_catalog.proofs.Names.{each_entry, get-map_values}
use Rattle.rs_catalog_meaning.specs.Meaning.{AreInOrder, named_by}
use Rattle.rs_catalog_pages.proofs.Counting.{times-cons, times-none}
use Rattle.rs_facts.specs.Fact.{Name, Names, name_cmp}
use Rattle.rs_machine.specs.Lawful.{Each}
use Rattle.rs_page_owners.specs.Counts.{one_at, times}
use Rattle.rs_file_meaning.proofs.Named.{above, itself, later_there, same_name, to_T}
use Rattle.rs_page_owners.proofs.Moving.{one_at-other, one_at-same, same_number}

-- ---- lists

pub each_of : {X : Type 0} (P Q : X → Type 0) → ((x : X) → P x → Q x) → (xs : List X) → AllByRecursion P xs → AllByRecursion Q xs
each_of P Q gives [] all = tt
each_of P Q gives (x ∷ xs) all = (gives x all.0, each_of P Q gives xs all.1)

pub each_said : {X Y : Type 0} (said : X → Y) (P : Y → Type 0) (xs : List X) → AllByRecursion (λ x. P (said x)) xs → AllByRecursion P (map said xs)
each_said said P [] all = tt
each_said said P (x ∷ xs) all = (all.0, each_said said P xs all.1)

-- items that are seen again as they were
pub map-back : {X Y : Type 0} (f : Y → X) (g : X → Y) (xs : List X) → AllByRecursion (λ x. f (g x) ≡ x) xs → map f (map g xs) ≡ xs
map-back f g [] all = refl
map-back f g (x ∷ xs) all = λ i. all.0 i ∷ map-back f g xs all.1 i

-- where a test of each is a test of what is seen of it, those that pass are those that are seen to pass
pub map-filtered : {X Y : Type 0} (g : X → Y) (p : X → Bool) (q : Y → Bool) (xs : List X) → AllByRecursion (λ x. p x ≡ q (g x)) xs → map g (filter p xs) ≡ filter q (map g xs)
map-filtered g p q [] all = refl
map-filtered g p q (x ∷ xs) all =
    let rest = map-filtered g p q xs all.1 in
    elim (p x) as (λ b. p x ≡ b → map g (cond b (x ∷ filter p xs) (filter p xs)) ≡ cond (q (g x)) (g x ∷ filter q (map g xs)) (filter q (map g xs))) [
      | true ↦ λ e. ap (λ l. g x ∷ l) rest ∙ ap (λ b. cond b (g x ∷ filter q (map g xs)) (filter q (map g xs))) (sym (sym all.0 ∙ e))
      | false ↦ λ e. rest ∙ ap (λ b. cond b (g x ∷ filter q (map g xs)) (filter q (map g xs))) (sym (sym all.0 ∙ e))
    ] refl

-- ---- maps and their entries

pub from_entries_back : {X : Type 0} (m : Names X) → names.from_sorted (names.entries m) ≡ m
from_entries_back m = same_entries_map (names.from_sorted (names.entries m)) m (entries-from_sorted name_cmp (names.entries m) (entries_sorted m))

-- what is so under each name is so of each entry
pub each_under : {X : Type 0} (P : Name → X → Type 0) (m : Names X) → Each m P → AllByRecursion (λ e. P e.0 e.1) (names.entries m)
each_under P m each = each_of (λ e. names.get m e.0 ≡ Some e.1) (λ e. P e.0 e.1) (λ e there. each e.0 e.1 there) (names.entries m) (each_entry m)

-- an entry that is found is there
found_there : {X : Type 0} (es : List (Name × X)) (name : Name) (x : X) → find name_cmp name es ≡ Some x → Contains es (name, x)
found_there [] name x found = absurd (none-some x found)
found_there (e ∷ es) name x found =
    elim (eq_by_cmp name_cmp name e.0) as (λ b. eq_by_cmp name_cmp name e.0 ≡ b → cond b (Some e.1) (find name_cmp name es) ≡ Some x → Contains (e ∷ es) (name, x)) [
      | true ↦ λ same is. (0, omega arith, λ i. (sym (same_name name e.0 same) i, same_Some e.1 x is i))
      | false ↦ λ other is. later_there e (name, x) es (found_there es name x is)
    ] refl found

pub entry_there : {X : Type 0} (m : Names X) (name : Name) (x : X) → names.get m name ≡ Some x → Contains (names.entries m) (name, x)
entry_there m name x there = found_there (names.entries m) name x (sym (get-entries m name) ∙ there)

-- what a value comes from
pub record HasValue {X Y : Type 0} (change : X → Y) (m : Names X) (name : Name) (y : Y) : Type 0 where
  pub value : X
  pub there : names.get m name ≡ Some value
  pub is : change value ≡ y

pub value_of : {X Y : Type 0} (change : X → Y) (m : Names X) (name : Name) (y : Y) → names.get (map_values change m) name ≡ Some y → HasValue change m name y
value_of change m name y there =
    elim (names.get m name) as (λ o. names.get m name ≡ o → option_map change o ≡ Some y → HasValue change m name y) [
      | None ↦ λ found is. absurd (none-some y is)
      | Some x ↦ λ found is. record { value = x; there = found; is = same_Some (change x) y is }
    ] refl (sym (get-map_values change m name) ∙ there)

pub value_there : {X Y : Type 0} (change : X → Y) (m : Names X) (name : Name) (x : X) → names.get m name ≡ Some x → names.get (map_values change m) name ≡ Some (change x)
value_there change m name x there = get-map_values change m name ∙ ap (option_map change) there

-- what is so of the values under their names is so of what they come from
pub each_value : {X Y : Type 0} (change : X → Y) (P : Name → Y → Type 0) (m : Names X) → Each (map_values change m) P → Each m (λ name x. P name (change x))
each_value change P m each name x there = each name (change x) (value_there change m name x there)

-- ---- items that are made of entries

from_T : (b : Bool) → T b → b ≡ true
from_T true t = refl
from_T false t = absurd t

-- under the same names whatever stands there is in order
module _ {X Y : Type 0} (f : Name × X → Name × Y) (same : (e : Name × X) → (f e).0 ≡ e.0) where
  same_below : (name : Name) (es : List (Name × X)) → below_all name_cmp name (map f es) ≡ below_all name_cmp name es
  same_below name [] = refl
  same_below name (e ∷ es) = λ i. is_lt (name_cmp name (same e i)) && same_below name es i

  same_order : (es : List (Name × X)) → is_sorted name_cmp (map f es) ≡ is_sorted name_cmp es
  same_order [] = refl
  same_order (e ∷ es) = ap (λ name. below_all name_cmp name (map f es) && is_sorted name_cmp (map f es)) (same e) ∙ (λ i. same_below e.0 es i && same_order es i)

pub items_in_order : {X Y : Type 0} (name_of : Y → Name) (item : Name × X → Y) → ((e : Name × X) → name_of (item e) ≡ e.0) → (m : Names X) → AreInOrder name_of (map item (names.entries m))
items_in_order name_of item same m =
    ap (is_sorted name_cmp) (map-map (λ y. (name_of y, y)) item (names.entries m))
    ∙ same_order (λ e. (name_of (item e), item e)) same (names.entries m)
    ∙ from_T (is_sorted name_cmp (names.entries m)) (entries_sorted m)

pub few_items : {X Y : Type 0} (item : Name × X → Y) (m : Names X) (most : ℕ) → names.len m ≤ most → length (map item (names.entries m)) ≤ most
few_items item m most few = omega (arith, few, len-entries m, length-map (names.entries m) item)

-- ---- entries that are made of items

-- items in the order of their names are found again in the map of them
pub items_back : {X Y : Type 0} (name_of : X → Name) (value : X → Y) (item : Name × Y → X) (xs : List X) → AreInOrder name_of xs
    → AllByRecursion (λ x. item (name_of x, value x) ≡ x) xs → map item (names.entries (names.from_sorted {R = name_cmp} (map (λ x. (name_of x, value x)) xs))) ≡ xs
items_back {X} {Y} name_of value item xs order back =
    let entry : X → Name × Y = λ x. (name_of x, value x) in
    let sorted : is_sorted name_cmp (map entry xs) ≡ true =
    ap (is_sorted name_cmp) (sym (map-map (λ (e : Name × X). (e.0, value e.1)) (λ x. (name_of x, x)) xs)) ∙ same_order (λ e. (e.0, value e.1)) (λ e. refl) (named_by name_of xs) ∙ order in
    ap (map item) (entries-from_sorted name_cmp (map entry xs) (to_T (is_sorted name_cmp (map entry xs)) sorted)) ∙ map-back item entry xs back

-- entries that items say again are those of the map
pub entries_back : {X Y : Type 0} (entry : Y → Name × X) (item : Name × X → Y) (m : Names X) → AllByRecursion (λ e. entry (item e) ≡ e) (names.entries m)
    → names.from_sorted (map entry (map item (names.entries m))) ≡ m
entries_back entry item m back = ap names.from_sorted (map-back entry item (names.entries m) back) ∙ from_entries_back m

-- ---- numbers

module _ {X : Type 0} (number_of : X → ℕ) (m : Names X) (numbered : AreNumbered number_of m) where
  abbrev Found : Name × X → Type 0
  Found e = names.get m e.0 ≡ Some e.1

  abbrev numbers : List (Name × X) → List ℕ
  numbers = map (λ e. number_of e.1)

  -- no later one has the number of the first
  none_later : (first : Name × X) (es : List (Name × X)) → Found first → below_all name_cmp first.0 es ≡ true → AllByRecursion Found es → times (numbers es) (number_of first.1) ≡ 0
  none_later first [] found below all = times-none (number_of first.1)
  none_later first (e ∷ es) found below all =
      let parts = and_parts (is_lt (name_cmp first.0 e.0)) (below_all name_cmp first.0 es) below in
      let other : number_of first.1 ≡ number_of e.1 → ⊥ = λ same.
      false≢true (sym (above first.0 e.0 parts.0) ∙ ap (eq_by_cmp name_cmp e.0) (numbered first.0 e.0 first.1 e.1 found all.0 same) ∙ itself e.0) in
      omega (arith, times-cons (number_of e.1) (numbers es) (number_of first.1), one_at-other (number_of e.1) (number_of first.1) other, none_later first es found parts.1 all.1)

  once_among : (es : List (Name × X)) → is_sorted name_cmp es ≡ true → AllByRecursion Found es → (n : ℕ) → times (numbers es) n ≤ 1
  once_among [] sorted all n = omega (arith, times-none n)
  once_among (e ∷ es) sorted all n =
      let parts = and_parts (below_all name_cmp e.0 es) (is_sorted name_cmp es) sorted in
      let rest = once_among es parts.1 all.1 n in
      let none = none_later e es all.0 parts.0 all.1 in
      elim (same_number n (number_of e.1)) [
        | inl same ↦ omega (
          arith,
          times-cons (number_of e.1) (numbers es) n,
          subst (λ k. times (numbers es) k ≡ 0) (sym same) none,
          ap (one_at (number_of e.1)) same,
          one_at-same (number_of e.1),
        )
        | inr other ↦ omega (arith, times-cons (number_of e.1) (numbers es) n, one_at-other (number_of e.1) n other, rest)
      ]

  -- each number is there once at the most
  pub each_once : {Y : Type 0} (item : Name × X → Y) (number : Y → ℕ) → ((e : Name × X) → number (item e) ≡ number_of e.1) → (n : ℕ)
      → times (map number (map item (names.entries m))) n ≤ 1
  each_once item number same n =
      subst (λ l. times l n ≤ 1) (sym (seen (names.entries m))) (once_among (names.entries m) (from_T (is_sorted name_cmp (names.entries m)) (entries_sorted m)) (each_entry m) n)
    where
      seen : (es : List (Name × X)) → map number (map item es) ≡ numbers es
      seen [] = refl
      seen (e ∷ es) = λ i. same e i ∷ seen es i

-- an item that is there has its number
some_with : {X : Type 0} (number_of : X → ℕ) (xs : List X) (k : ℕ) (x : X) → k < length xs → get_or xs k x ≡ x → 0 < times (map number_of xs) (number_of x)
some_with number_of [] k x inside at = absurd (omega (arith, inside))
some_with number_of (y ∷ xs) zero x inside at =
    omega (arith, times-cons (number_of y) (map number_of xs) (number_of x), ap (λ z. one_at (number_of z) (number_of x)) at, one_at-same (number_of x))
some_with number_of (y ∷ xs) (suc k) x inside at =
    omega (arith, times-cons (number_of y) (map number_of xs) (number_of x), some_with number_of xs k x (omega (arith, inside)) at)

pub numbered_there : {X : Type 0} (number_of : X → ℕ) (xs : List X) (x : X) → Contains xs x → 0 < times (map number_of xs) (number_of x)
numbered_there number_of xs x there = some_with number_of xs there.0 x there.1 there.2
