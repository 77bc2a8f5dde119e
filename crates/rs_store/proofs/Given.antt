-- The numbers that the listing of a catalogue gives, each once.
use Rattle.std.proofs.Common.{◌≡◌, ◌≤◌, ◌<◌, ◌+◌, ◌^◌, ◌∙◌, ℕ, zero, suc, Bool, true, false, T, List, [], ◌∷◌, ◌++◌, Some, ap, get_or, inl, inr, length, map, refl, slice_get, subst, sym, arith}
use Rattle.std.specs.FinMap as names
use Rattle.std.specs.FinMap.{entries_sorted, is_sorted}
use Rattle.std.specs.FinMap.Entries.{below_all}
use Rattle.std.specs.List.{AllByRecursion}
use Rattle.std.specs.Ordering.{eq_by_cmp, is_lt}
use Rattle.std.specs.Prelude.{Contains}
use Rattle.std.proofs.lemmas.Bool.{and_parts, false≢true}
use Rattle.std.proofs.lemmas.List.Elements.{All-from_recursion}
use Rattle.rs_catalog.specs.Definitions as catalog
use Rattle.rs_catalog.specs.Definitions.{AreDefinitions, AreNumbered, Definitions}
use Rattle.rs_catalog.proofs.Names.{each_entry}
use Rattle.rs_catalog_pages.specs.Items.{IndexItem, RouteItem, TableItem}
use Rattle.rs_catalog_pages.specs.declared.directory_items.TheConstants.{INDEXES, TABLES}
use Rattle.rs_catalog_pages.proofs.Counting.{times-cons, times-none}
use Rattle.rs_facts.specs.Fact.{Name, Names, name_cmp}
use Rattle.rs_file.specs.Contents.{AreGivenOnce, table_numbers}
use Rattle.rs_page_owners.specs.Counts.{one_at, times}
use Rattle.rs_stored_catalog.specs.Listing.{listed_index, listed_table, listing_of}
use Rattle.rs_file_meaning.proofs.Named.{above, itself}
use Rattle.rs_page_owners.proofs.Moving.{one_at-other, one_at-same, same_number}
use Rattle.rs_store.specs.Rewriting.{AreNumbersSmall}
use Rattle.rs_store.proofs.Placed.{entry_there}

from_T : (b : Bool) → T b → b ≡ true
from_T true t = refl
from_T false t = absurd t

-- what is so of what stands under each name is so of each entry as it is seen
pub each_listed : {X Y : Type 0} (P : Y → Type 0) (see : Name × X → Y) (m : Names X) → ((name : Name) (x : X) → names.get m name ≡ Some x → P (see (name, x))) → AllByRecursion P (map see (names.entries m))
each_listed {X = X} P see m each = go (names.entries m) (each_entry m) where
  go : (es : List (Name × X)) → AllByRecursion (λ (e : Name × X). names.get m e.0 ≡ Some e.1) es → AllByRecursion P (map see es)
  go [] all = tt
  go (e ∷ es) all = (each e.0 e.1 all.0, go es all.1)

-- the numbers of definitions are below their limits, and so are the births, where they are at most some version
pub small_numbers : (definitions : Definitions) (version : ℕ) → AreDefinitions definitions → AllByRecursion (λ route. route.born ≤ version) (listing_of definitions).routes → version < 2 ^ 64
    → AreNumbersSmall (listing_of definitions)
small_numbers definitions version are births room = record {
  births = All-from_recursion (λ (route : RouteItem). route.born < 2 ^ 64) (listing_of definitions).routes (earlier (listing_of definitions).routes births);
  tables = All-from_recursion (λ (table : TableItem). table.number < 2 ^ 32) (listing_of definitions).tables
      (each_listed (λ (table : TableItem). table.number < 2 ^ 32) listed_table definitions.tables (λ name item there. omega (arith, (are.tables name item there).0)));
  indexes = All-from_recursion (λ (index : IndexItem). index.number < 2 ^ 32) (listing_of definitions).indexes
      (each_listed (λ (index : IndexItem). index.number < 2 ^ 32) listed_index definitions.indexes (λ name item there. omega (arith, (are.indexes name item there).0)));
}
  where
    earlier : (routes : List RouteItem) → AllByRecursion (λ route. route.born ≤ version) routes → AllByRecursion (λ route. route.born < 2 ^ 64) routes
    earlier [] all = tt
    earlier (route ∷ routes) all = (omega (arith, all.0, room), earlier routes all.1)

-- ---- names that are numbered

module _ {X : Type 0} (number_of : X → ℕ) (m : Names X) (numbered : AreNumbered number_of m) where
  abbrev Found : Name × X → Type 0
  Found e = names.get m e.0 ≡ Some e.1

  abbrev numbers : List (Name × X) → List ℕ
  numbers = map (λ e. number_of e.1)

  -- no later one has the number of the first
  none_later : (first : Name × X) (es : List (Name × X)) → Found first → below_all name_cmp first.0 es ≡ true → AllByRecursion Found es → times (numbers es) (number_of first.1) ≡ 0
  none_later first [] found below all = times-none (number_of first.1)
  none_later first (e ∷ es) found below all =
      let parts = and_parts (is_lt (name_cmp first.0 e.0)) (below_all name_cmp first.0 es) below in
      let other : number_of first.1 ≡ number_of e.1 → ⊥ = λ same.
      false≢true (sym (above first.0 e.0 parts.0) ∙ ap (eq_by_cmp name_cmp e.0) (numbered first.0 e.0 first.1 e.1 found all.0 same) ∙ itself e.0) in
      omega (arith, times-cons (number_of e.1) (numbers es) (number_of first.1), one_at-other (number_of e.1) (number_of first.1) other, none_later first es found parts.1 all.1)

  once_among : (es : List (Name × X)) → is_sorted name_cmp es ≡ true → AllByRecursion Found es → (n : ℕ) → times (numbers es) n ≤ 1
  once_among [] sorted all n = omega (arith, times-none n)
  once_among (e ∷ es) sorted all n =
      let parts = and_parts (below_all name_cmp e.0 es) (is_sorted name_cmp es) sorted in
      let rest = once_among es parts.1 all.1 n in
      let none = none_later e es all.0 parts.0 all.1 in
      elim (same_number n (number_of e.1)) [
        | inl same ↦ omega (
          arith,
          times-cons (number_of e.1) (numbers es) n,
          subst (λ k. times (numbers es) k ≡ 0) (sym same) none,
          ap (one_at (number_of e.1)) same,
          one_at-same (number_of e.1),
        )
        | inr other ↦ omega (arith, times-cons (number_of e.1) (numbers es) n, one_at-other (number_of e.1) n other, rest)
      ]

  -- each number is there once at the most
  each_once : {Y : Type 0} (item : Name × X → Y) (number : Y → ℕ) → ((e : Name × X) → number (item e) ≡ number_of e.1) → (n : ℕ)
      → times (map number (map item (names.entries m))) n ≤ 1
  each_once item number same n =
      subst (λ l. times l n ≤ 1) (sym (seen (names.entries m))) (once_among (names.entries m) (from_T (is_sorted name_cmp (names.entries m)) (entries_sorted m)) (each_entry m) n)
    where
      seen : (es : List (Name × X)) → map number (map item es) ≡ numbers es
      seen [] = refl
      seen (e ∷ es) = λ i. same e i ∷ seen es i

-- an item that is there has its number
some_with : {X : Type 0} (number_of : X → ℕ) (xs : List X) (k : ℕ) (x : X) → k < length xs → get_or xs k x ≡ x → 0 < times (map number_of xs) (number_of x)
some_with number_of [] k x inside at = absurd (omega (arith, inside))
some_with number_of (y ∷ xs) zero x inside at =
    omega (arith, times-cons (number_of y) (map number_of xs) (number_of x), ap (λ z. one_at (number_of z) (number_of x)) at, one_at-same (number_of x))
some_with number_of (y ∷ xs) (suc k) x inside at =
    omega (arith, times-cons (number_of y) (map number_of xs) (number_of x), some_with number_of xs k x (omega (arith, inside)) at)

-- what is there is seen
seen_there : {X Y : Type 0} (see : X → Y) (xs : List X) (x : X) → Contains xs x → Contains (map see xs) (see x)
seen_there see [] x there = absurd (omega (arith, there.1))
seen_there see (y ∷ xs) x (zero, inside, is) = (0, omega arith, ap see is)
seen_there see (y ∷ xs) x (suc k, inside, is) = let rest = seen_there see xs x (k, omega (arith, inside), is) in (suc rest.0, omega (arith, rest.1), rest.2)

-- the listing of a catalogue gives each number once
pub given_once : (definitions : Definitions) → AreDefinitions definitions → AreGivenOnce (listing_of definitions)
given_once definitions are = record {
  tables_below = each_listed (λ (t : TableItem). t.number < TABLES) listed_table definitions.tables (λ name item there. (are.tables name item there).0);
  tables_once = each_once (λ (item : catalog.TableItem). item.number) definitions.tables are.table_numbers listed_table (λ (t : TableItem). t.number) (λ e. refl);
  indexes_below = each_listed (λ (x : IndexItem). x.number < INDEXES) listed_index definitions.indexes (λ name item there. (are.indexes name item there).0);
  indexes_once = each_once (λ (item : catalog.IndexItem). item.number) definitions.indexes are.index_numbers listed_index (λ (x : IndexItem). x.number) (λ e. refl);
  of_tables = each_listed (λ (x : IndexItem). 0 < times (table_numbers (listing_of definitions)) x.table) listed_index definitions.indexes index_of;
}
  where
    index_of : (name : Name) (item : catalog.IndexItem) → names.get definitions.indexes name ≡ Some item → 0 < times (table_numbers (listing_of definitions)) item.table_number
    index_of name item there =
        let of = (are.indexes name item there).1 in
        let listed = seen_there listed_table (names.entries definitions.tables) (item.table, of.table) (entry_there definitions.tables item.table of.table of.there) in
        subst (λ n. 0 < times (table_numbers (listing_of definitions)) n) of.numbered
        (some_with (λ (t : TableItem). t.number) (listing_of definitions).tables listed.0 (listed_table (item.table, of.table)) listed.1 listed.2)

-- ---- places

-- a number that is found in a list is there
pub found_once : (numbers : List ℕ) (k number : ℕ) → slice_get numbers k ≡ Some number → 1 ≤ times numbers number
found_once [] k number is = absurd (cc)
found_once (n ∷ numbers) zero number is =
    let same : n ≡ number = cc in
    omega (arith, times-cons n numbers number, ap (λ m. one_at m number) same, one_at-same number)
found_once (n ∷ numbers) (suc k) number is = omega (arith, times-cons n numbers number, found_once numbers k number is)

-- an item among others counts once more
times_put : (first : List TableItem) (one : TableItem) (last : List TableItem) (number : ℕ)
    → times (map (λ (t : TableItem). t.number) (first ++ one ∷ last)) number ≡ one_at one.number number + times (map (λ (t : TableItem). t.number) (first ++ last)) number
times_put [] one last number = times-cons one.number (map (λ (t : TableItem). t.number) last) number
times_put (f ∷ first) one last number =
    omega (
      arith,
      times-cons f.number (map (λ (t : TableItem). t.number) (first ++ one ∷ last)) number,
      times-cons f.number (map (λ (t : TableItem). t.number) (first ++ last)) number,
      times_put first one last number,
    )

-- its number is at its place alone
pub place_of : (first : List TableItem) (one : TableItem) (last : List TableItem) (place : ℕ) → times (map (λ (t : TableItem). t.number) (first ++ one ∷ last)) one.number ≤ 1
    → slice_get (map (λ (t : TableItem). t.number) (first ++ one ∷ last)) place ≡ Some one.number → length first ≡ place
place_of [] one last zero once is = refl
place_of [] one last (suc k) once is =
    absurd (omega (
      arith,
      times-cons one.number (map (λ (t : TableItem). t.number) last) one.number,
      one_at-same one.number,
      found_once (map (λ (t : TableItem). t.number) last) k one.number is,
      once,
    ))
place_of (f ∷ first) one last zero once is =
    let same : f.number ≡ one.number = cc in
    absurd (omega (
      arith,
      times-cons f.number (map (λ (t : TableItem). t.number) (first ++ one ∷ last)) one.number,
      ap (λ n. one_at n one.number) same,
      one_at-same one.number,
      times_put first one last one.number,
      once,
    ))
place_of (f ∷ first) one last (suc k) once is =
    let rest = place_of first one last k (omega (arith, once, times-cons f.number (map (λ (t : TableItem). t.number) (first ++ one ∷ last)) one.number)) is in
    omega (arith, rest)
