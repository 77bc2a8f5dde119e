-- Indexes that are listed, and their positions among those of their tables.
use Rattle.std.proofs.Common.{◌≡◌, ◌≤◌, ◌+◌, ◌==◌, ◌++◌, ◌∷◌, [], ◌∙◌, ℕ, zero, suc, List, Some, ap, cond, filter, length, map, not, refl, slice_get, subst, sym, arith}
use Rattle.std.specs.FinMap as names
use Rattle.std.specs.List.{AllByRecursion}
use Rattle.std.specs.Option.{option_map}
use Rattle.std.proofs.lemmas.Bool.{eq-eqb, ne_eqb}
use Rattle.std.proofs.lemmas.List.{length-map}
use Rattle.std.proofs.lemmas.Option.{slice_get-map}
use Rattle.rs_attr.specs.Entries.{FitsPages}
use Rattle.rs_catalog.specs.Changes as changes
use Rattle.rs_catalog.specs.Definitions as catalog
use Rattle.rs_catalog.specs.Definitions.{AreDefinitions, Definitions, IsColumnOf}
use Rattle.rs_catalog_pages.specs.Items.{CatalogueItems, IndexItem, TableItem}
use Rattle.rs_catalog_pages.proofs.Counting.{times-cons}
use Rattle.rs_facts.specs.Fact.{Name}
use Rattle.rs_file.specs.Contents.{index_numbers, table_numbers, type_of}
use Rattle.rs_file.specs.Slots.{indexes_on}
use Rattle.rs_machine.specs.Checks.{column_types}
use Rattle.rs_machine.specs.Lawful.{AreColumnsOfTable}
use Rattle.rs_page_owners.specs.Counts.{one_at, times}
use Rattle.rs_stored_catalog.specs.Listing.{listed_column, listed_index, listed_table, listing_of}
use Rattle.rs_stored_catalog.specs.Relisting.{HasIndexMore}
use Rattle.rs_changes.specs.Tables.{HasIndexAt, HasIndexOfAt}
use Rattle.rs_page_owners.proofs.Moving.{one_at-same}
use Rattle.rs_store.specs.Indexing.{HasIndexListed, position_among, those_before, without_index_numbered}
use Rattle.rs_store.proofs.Given.{found_once}
use Rattle.rs_store.proofs.Placed.{at_place, columns_listed, entry_there}
use Rattle.rs_store.proofs.Tabled.{none_wider}
use Rattle.rs_value.specs.Encoding.{row_width, width}
use Rattle.rs_value.specs.declared.column.ColumnType.{ColumnType}
use Rattle.rs_value.specs.declared.column.TheConstants.{ROW_BYTES, TEXT_BYTES}

-- ---- numbers

-- a number that is given once is at one place
once_at : (numbers : List ℕ) (a b number : ℕ) → times numbers number ≤ 1 → slice_get numbers a ≡ Some number → slice_get numbers b ≡ Some number → a ≡ b
once_at [] a b number once first second = absurd (cc)
once_at (n ∷ numbers) zero zero number once first second = refl
once_at (n ∷ numbers) zero (suc b) number once first second =
    let same : n ≡ number = cc in
    absurd (omega (arith, once, times-cons n numbers number, ap (λ m. one_at m number) same, one_at-same number, found_once numbers b number second))
once_at (n ∷ numbers) (suc a) zero number once first second =
    let same : n ≡ number = cc in
    absurd (omega (arith, once, times-cons n numbers number, ap (λ m. one_at m number) same, one_at-same number, found_once numbers a number first))
once_at (n ∷ numbers) (suc a) (suc b) number once first second = ap suc (once_at numbers a b number (omega (arith, once, times-cons n numbers number)) first second)

-- ---- positions

abbrev numbers_in : List IndexItem → List ℕ
numbers_in = map (λ (index : IndexItem). index.number)

there_once : (before : List IndexItem) (one : IndexItem) (after : List IndexItem) → 1 ≤ times (numbers_in (before ++ one ∷ after)) one.number
there_once [] one after = omega (arith, times-cons one.number (numbers_in after) one.number, one_at-same one.number)
there_once (b ∷ before) one after = omega (arith, times-cons b.number (numbers_in (before ++ one ∷ after)) one.number, there_once before one after)

apart_first : (b : IndexItem) (before : List IndexItem) (one : IndexItem) (after : List IndexItem) → times (numbers_in (b ∷ before ++ one ∷ after)) one.number ≤ 1 → b.number ≡ one.number → ⊥
apart_first b before one after once same = omega (
  arith,
  once,
  times-cons b.number (numbers_in (before ++ one ∷ after)) one.number,
  ap (λ n. one_at n one.number) same,
  one_at-same one.number,
  there_once before one after,
)

-- those before an index are those before its number
before_number : (before : List IndexItem) (one : IndexItem) (after : List IndexItem) → times (numbers_in (before ++ one ∷ after)) one.number ≤ 1 → those_before one.number (before ++ one ∷ after) ≡ before
before_number [] one after once = ap (λ b. cond b [] (one ∷ those_before one.number after)) (eq-eqb one.number one.number refl)
before_number (b ∷ before) one after once =
    ap (λ c. cond c [] (b ∷ those_before one.number (before ++ one ∷ after))) (ne_eqb b.number one.number (apart_first b before one after once))
    ∙ ap (λ (l : List IndexItem). b ∷ l) (before_number before one after (omega (arith, once, times-cons b.number (numbers_in (before ++ one ∷ after)) one.number)))

-- the others are those that have another number
none_numbered : (number : ℕ) (items : List IndexItem) → times (numbers_in items) number ≡ 0 → filter (λ (x : IndexItem). not (x.number == number)) items ≡ items
none_numbered number [] none = refl
none_numbered number (x ∷ items) none =
    let apart : x.number ≡ number → ⊥ = λ same. omega (arith, none, times-cons x.number (numbers_in items) number, ap (λ n. one_at n number) same, one_at-same number) in
    ap (λ b. cond (not b) (x ∷ filter (λ (x : IndexItem). not (x.number == number)) items) (filter (λ (x : IndexItem). not (x.number == number)) items)) (ne_eqb x.number number apart)
    ∙ ap (λ (l : List IndexItem). x ∷ l) (none_numbered number items (omega (arith, none, times-cons x.number (numbers_in items) number)))

pub indexes_left : (before : List IndexItem) (one : IndexItem) (after : List IndexItem) → times (numbers_in (before ++ one ∷ after)) one.number ≤ 1
    → filter (λ (x : IndexItem). not (x.number == one.number)) (before ++ one ∷ after) ≡ before ++ after
indexes_left [] one after once =
    ap (λ b. cond (not b) (one ∷ filter (λ (x : IndexItem). not (x.number == one.number)) after) (filter (λ (x : IndexItem). not (x.number == one.number)) after)) (eq-eqb one.number one.number refl)
    ∙ none_numbered one.number after (omega (arith, once, times-cons one.number (numbers_in after) one.number, one_at-same one.number))
indexes_left (b ∷ before) one after once =
    let more = before ++ one ∷ after in
    ap (λ c. cond (not c) (b ∷ filter (λ (x : IndexItem). not (x.number == one.number)) more) (filter (λ (x : IndexItem). not (x.number == one.number)) more))
    (ne_eqb b.number one.number (apart_first b before one after once))
    ∙ ap (λ (l : List IndexItem). b ∷ l) (indexes_left before one after (omega (arith, once, times-cons b.number (numbers_in more) one.number)))

-- ---- one index more

-- the index is at its position among those of its table
pub index_at : (old now : CatalogueItems) (index : IndexItem) (table : TableItem) (place : ℕ) → HasIndexMore index old now → slice_get now.tables place ≡ Some table → index.table ≡ table.number
    → ((n : ℕ) → times (index_numbers now) n ≤ 1) → HasIndexAt place (position_among index.number index.table now.indexes) old now
index_at old now index table place more there of_table once =
    let put = more.indexes in
    let same : those_before index.number now.indexes ≡ put.before =
    ap (those_before index.number) put.is ∙ before_number put.before index put.after (subst (λ (items : List IndexItem). times (numbers_in items) index.number ≤ 1) put.is (once index.number)) in
    record {
      index = index;
      table = table;
      there = there;
      of_table = of_table;
      before = put.before;
      after = put.after;
      were = put.was;
      are = put.is;
      long = ap (λ n. length (indexes_on put.before n)) (sym of_table) ∙ ap (λ (items : List IndexItem). length (indexes_on items index.table)) (sym same);
      tables = ap (λ (items : CatalogueItems). items.tables) more.others;
    }

pub index_of_at : (name : Name) (item : catalog.IndexItem) (place : ℕ) (old now : CatalogueItems) → HasIndexListed name item place old now → ((n : ℕ) → times (index_numbers now) n ≤ 1)
    → HasIndexOfAt place (position_among item.number item.table_number now.indexes) item.column old now
unfolding index_at
index_of_at name item place old now listed once = record {
  more = index_at old now (listed_index (name, item)) listed.table place listed.more listed.there listed.of_table once;
  column_is = refl;
  below = listed.below;
  fits = listed.fits;
}

-- a catalogue without an index lists the definitions without its number
pub index_less : (was now : CatalogueItems) (one : IndexItem) → HasIndexMore one now was → ((n : ℕ) → times (index_numbers was) n ≤ 1) → without_index_numbered one.number was ≡ now
index_less was now one more once =
    let put = more.indexes in
    let left : filter (λ (x : IndexItem). not (x.number == one.number)) was.indexes ≡ now.indexes =
    ap (filter (λ (x : IndexItem). not (x.number == one.number))) put.is
    ∙ indexes_left put.before one put.after (subst (λ (items : List IndexItem). times (numbers_in items) one.number ≤ 1) put.is (once one.number)) ∙ sym put.was in
    (λ i. record was { indexes = left i }) ∙ ap (λ (items : CatalogueItems). record items { indexes = now.indexes }) more.others

-- ---- the table of an index

abbrev pub LinesFitIndexes : Type 0
LinesFitIndexes = (types : List ColumnType) → row_width types ≤ ROW_BYTES → AllByRecursion (λ type. width type ≤ TEXT_BYTES + 1) types → (column : ℕ) → FitsPages types column

-- a table is listed at the place of its number
pub table_listed : (definitions : Definitions) (name : Name) (table : catalog.TableItem) (place : ℕ) → names.get definitions.tables name ≡ Some table
    → ((n : ℕ) → times (table_numbers (listing_of definitions)) n ≤ 1) → slice_get (table_numbers (listing_of definitions)) place ≡ Some table.number
    → slice_get (listing_of definitions).tables place ≡ Some (listed_table (name, table))
table_listed definitions name table place there once numbered =
    let at = at_place (names.entries definitions.tables) (name, table) (entry_there definitions.tables name table there) in
    let here : slice_get (listing_of definitions).tables at.0 ≡ Some (listed_table (name, table)) =
    slice_get-map listed_table (names.entries definitions.tables) at.0 ∙ ap (option_map listed_table) at.1 in
    let same : at.0 ≡ place = once_at (table_numbers (listing_of definitions)) at.0 place table.number (once table.number)
    (slice_get-map (λ (t : TableItem). t.number) (listing_of definitions).tables at.0 ∙ ap (option_map (λ (t : TableItem). t.number)) here) numbered in
    subst (λ p. slice_get (listing_of definitions).tables p ≡ Some (listed_table (name, table))) same here

-- an index that was defined is listed once more
pub index_listed : LinesFitIndexes → (before now : Definitions) (was : CatalogueItems) (name : Name) (item : catalog.IndexItem) (place : ℕ) → AreDefinitions now → listing_of before ≡ was
    → now ≡ changes.with_index before name item → HasIndexMore (listed_index (name, item)) (listing_of before) (listing_of (changes.with_index before name item))
    → (of : IsColumnOf before.tables item.table item.table_number item.column) → AreColumnsOfTable of.table.columns
    → slice_get (table_numbers was) place ≡ Some of.table.number → ((n : ℕ) → times (table_numbers (listing_of before)) n ≤ 1)
    → HasIndexListed name item place was (listing_of now)
index_listed law before now was name item place are listed is more of columns placed once =
    let types = map type_of (map listed_column of.table.columns) in
    let tables : (listing_of now).tables ≡ (listing_of before).tables = ap (λ (d : Definitions). (listing_of d).tables) is in
    record {
      more = subst (λ (items : CatalogueItems). HasIndexMore (listed_index (name, item)) items (listing_of now)) listed
          (subst (λ (n : Definitions). HasIndexMore (listed_index (name, item)) (listing_of before) (listing_of n)) (sym is) more);
      table = listed_table (item.table, of.table);
      there = ap (λ (items : List TableItem). slice_get items place) tables
          ∙ table_listed before item.table of.table place of.there once (ap (λ (items : CatalogueItems). slice_get (table_numbers items) place) listed ∙ placed);
      of_table = sym of.numbered;
      below = omega (arith, of.below, length-map of.table.columns listed_column);
      fits = subst (λ (ts : List ColumnType). FitsPages ts item.column) (sym (columns_listed of.table.columns columns.sound))
          (law (column_types of.table.columns) columns.narrow (none_wider of.table.columns columns.sound) item.column);
    }
