-- Tables that are listed, and their places.
use Rattle.std.proofs.Common.{◌≡◌, ◌≤◌, ◌+◌, ◌*◌, ◌∙◌, ℕ, List, [], ◌∷◌, ◌++◌, Result, Ok, Err, None, Some, ap, false, inl, inr, is_some, length, map, refl, slice_get, subst, sym, arith}
use Rattle.std.specs.FinMap as names
use Rattle.std.specs.List.{AllByRecursion}
use Rattle.std.specs.Option.{option_map}
use Rattle.std.specs.Prelude.{OnOk}
use Rattle.std.proofs.lemmas.Bool.{false≢true}
use Rattle.std.proofs.lemmas.List.{length-map}
use Rattle.std.proofs.lemmas.Option.{same_Some, slice_get-map}
use Rattle.rs_catalog.specs.Changes.{with_table}
use Rattle.rs_catalog.specs.Definitions as catalog
use Rattle.rs_catalog.specs.Definitions.{Definitions}
use Rattle.rs_catalog.proofs.MapLaws.{cases_insert}
use Rattle.rs_catalog_pages.specs.Items.{CatalogueItems, TableItem}
use Rattle.rs_catalog_pages.specs.Said.{said_catalogue, said_table}
use Rattle.rs_catalog_pages.specs.declared.items.StoredCatalogue.{StoredCatalogue}
use Rattle.rs_catalog_pages.specs.declared.items.StoredTable.{StoredTable}
use Rattle.rs_changes.specs.Changing.{ChangesFile}
use Rattle.rs_changes.specs.Standing.{IsOpenedFile}
use Rattle.rs_changes.specs.Tables.{HasTableAt}
use Rattle.rs_facts.specs.Fact.{Name, Names}
use Rattle.rs_facts.specs.Query.{Column}
use Rattle.rs_file.specs.Contents.{Contents, table_numbers, type_of}
use Rattle.rs_file.specs.declared.opened.OpenedFile.{OpenedFile}
use Rattle.rs_machine.specs.Checks.{column_types}
use Rattle.rs_machine.specs.Lawful.{AreColumnsOfTable, Each}
use Rattle.rs_machine.specs.State.{has}
use Rattle.rs_page_owners.specs.Counts.{times}
use Rattle.rs_pages.specs.PageMap.{PageMap}
use Rattle.rs_refusal.specs.declared.refusal.Refusal.{Refusal}
use Rattle.rs_store.specs.Tabling.{HasColumnsAt, HasNumbered, HasNumberedMore}
use Rattle.rs_stored_catalog.specs.Listing.{listed_column, listed_table, listing_of}
use Rattle.rs_stored_catalog.specs.Relisting.{HasTableMore}
use Rattle.rs_store.proofs.Given.{place_of}
use Rattle.rs_store.proofs.Placed.{columns_listed, comes_from}
use Rattle.rs_syntax.specs.Sound.{AreColumns}
use Rattle.rs_value.specs.Encoding.{row_width, width}
use Rattle.rs_value.specs.declared.column.ColumnType.{ColumnType}
use Rattle.rs_value.specs.declared.column.ColumnType.TheVariants.{Int, Text}
use Rattle.rs_value.specs.declared.column.TheConstants.{COLUMNS, ROW_BYTES, TEXT_BYTES}
use Rattle.rs_versioned.specs.Events.{event_width}

-- ---- places

-- what is put among others is there at its place
pub put_there : {X : Type 0} (before : List X) (one : X) (after : List X) → slice_get (before ++ one ∷ after) (length before) ≡ Some one
put_there [] one after = refl
put_there (x ∷ before) one after = put_there before one after

module _ (number : ℕ) (old now : CatalogueItems) (more : HasNumberedMore number old now) (once : (n : ℕ) → times (table_numbers now) n ≤ 1) where
  pub there_listed : slice_get now.tables (length more.more.tables.before) ≡ Some more.item
  there_listed = ap (λ (items : List TableItem). slice_get items (length more.more.tables.before)) more.more.tables.is ∙ put_there more.more.tables.before more.item more.more.tables.after

  -- a table of the number is at its place
  at_its_place : (place : ℕ) (table : TableItem) → slice_get now.tables place ≡ Some table → table.number ≡ number → length more.more.tables.before ≡ place
  at_its_place place table there numbered =
      let put = more.more.tables in
      let same = put.is in
      place_of put.before more.item put.after place (subst (λ (items : List TableItem). times (map (λ (t : TableItem). t.number) items) more.item.number ≤ 1) same (once more.item.number))
      (ap (λ (items : List TableItem). slice_get (map (λ (t : TableItem). t.number) items) place) (sym same)
      ∙ slice_get-map (λ (t : TableItem). t.number) now.tables place ∙ ap (option_map (λ (t : TableItem). t.number)) there ∙ ap Some (numbered ∙ sym more.numbered))

  -- and is that table
  the_item : (place : ℕ) (table : TableItem) → slice_get now.tables place ≡ Some table → table.number ≡ number → table ≡ more.item
  the_item place table there numbered =
      same_Some table more.item (sym there ∙ ap (slice_get now.tables) (sym (at_its_place place table there numbered)) ∙ there_listed)

  module _ (stored : StoredCatalogue) (says : said_catalogue stored ≡ now) where
    said_at : (place : ℕ) (table : StoredTable) → slice_get stored.tables.items place ≡ Some table → slice_get now.tables place ≡ Some (said_table table)
    said_at place table there =
        ap (λ (items : CatalogueItems). slice_get items.tables place) (sym says) ∙ slice_get-map said_table stored.tables.items place ∙ ap (option_map said_table) there

    -- so it is found
    pub has_numbered : HasNumbered stored.tables.items number
    has_numbered = record {
      some = λ none.
          let from = comes_from said_table stored.tables.items (length more.more.tables.before) more.item
          (ap (λ (items : CatalogueItems). slice_get items.tables (length more.more.tables.before)) says ∙ there_listed) in
          none.none (length more.more.tables.before) from.one from.there (ap (λ (t : TableItem). t.number) from.is ∙ more.numbered);
      few = λ place table there numbered.
          subst (λ (t : TableItem). length t.columns ≤ COLUMNS) (sym (the_item place (said_table table) (said_at place table there) numbered)) more.few;
      fits = λ place table there numbered.
          subst (λ (t : TableItem). 3 * (8 + event_width (map type_of t.columns)) ≤ 4080) (sym (the_item place (said_table table) (said_at place table there) numbered)) more.fits;
    }

    -- and the file gets one table more at that place
    pub table_at : (place : ℕ) (types : List ColumnType) → HasColumnsAt stored.tables.items number place types → HasTableAt place types old now
    table_at place types at =
        let put = more.more.tables in
        let there = said_at place at.table at.there in
        let is = the_item place (said_table at.table) there at.numbered in
        let types_are : types ≡ map type_of more.item.columns = at.types_are ∙ ap (λ (t : TableItem). map type_of t.columns) is in
        record {
          item = more.item;
          tables = record { before = put.before; after = put.after; long = at_its_place place (said_table at.table) there at.numbered; was = put.was; is = put.is };
          indexes = ap (λ (items : CatalogueItems). items.indexes) more.more.others;
          few = more.few;
          types_are = types_are;
          fits = subst (λ (ts : List ColumnType). 3 * (8 + event_width ts) ≤ 4080) (sym types_are) more.fits;
        }

    pub number_listed : (place : ℕ) (types : List ColumnType) → HasColumnsAt stored.tables.items number place types → slice_get (table_numbers now) place ≡ Some number
    number_listed place types at =
        slice_get-map (λ (t : TableItem). t.number) now.tables place ∙ ap (option_map (λ (t : TableItem). t.number)) (said_at place at.table at.there) ∙ ap Some at.numbered

-- ---- what has changed

-- a change that was one of a kind is one of another, where each of that kind is
pub changes_by : (oldest : ℕ) (old new : PageMap) (was is : OpenedFile) (change other : Contents → Contents → Type 0) (result : Result (Unit {0}) Refusal)
    → ((one next : Contents) → IsOpenedFile was one → change one next → other one next) → OnOk result (ChangesFile oldest old new was is change) → OnOk result (ChangesFile oldest old new was is other)
changes_by oldest old new was is change other (Ok answer) gives changes = record {
  each = λ contents holds opened.
      let has = changes.each contents holds opened in
      record { between = has.between; changed = gives contents has.between opened has.changed; completes = has.completes };
}
changes_by oldest old new was is change other (Err why) gives changes = tt

-- ---- columns

-- what is said of tables whose rows are no wider than a line can ask for
abbrev pub LinesFit : Type 0
LinesFit = (types : List ColumnType) → row_width types ≤ ROW_BYTES → 3 * (8 + event_width types) ≤ 4080

pub none_wider : (columns : List Column) → AreColumns columns → AllByRecursion (λ type. width type ≤ TEXT_BYTES + 1) (column_types columns)
none_wider [] are = tt
none_wider ((name, Int) ∷ columns) are = (omega arith, none_wider columns are.2)
none_wider ((name, Text most) ∷ columns) are = (omega (arith, are.1.1), none_wider columns are.2)

-- three entries of the tree of a table with columns that a table may have fit a page
pub columns_fit : LinesFit → (columns : List Column) → AreColumnsOfTable columns → 3 * (8 + event_width (map type_of (map listed_column columns))) ≤ 4080
columns_fit law columns are = subst (λ (types : List ColumnType). 3 * (8 + event_width types) ≤ 4080) (sym (columns_listed columns are.sound))
    (law (column_types columns) are.narrow)

-- a table that was defined is listed once more
pub numbered_more : LinesFit → (before now : Definitions) (was : CatalogueItems) (name : Name) (item : catalog.TableItem) → listing_of before ≡ was → now ≡ with_table before name item
    → HasTableMore (listed_table (name, item)) (listing_of before) (listing_of (with_table before name item)) → AreColumnsOfTable item.columns → HasNumberedMore item.number was (listing_of now)
numbered_more law before now was name item listed is more columns = record {
  item = listed_table (name, item);
  more = subst (λ (items : CatalogueItems). HasTableMore (listed_table (name, item)) items (listing_of now)) listed
      (subst (λ (n : Definitions). HasTableMore (listed_table (name, item)) (listing_of before) (listing_of n)) (sym is) more);
  numbered = refl;
  few = omega (arith, columns.few, length-map item.columns listed_column);
  fits = columns_fit law item.columns columns;
}

-- each table of a catalogue with one more has columns that a table may have
pub columns_more : (tables : Names catalog.TableItem) (name : Name) (item : catalog.TableItem) → Each tables (λ n table. AreColumnsOfTable table.columns) → AreColumnsOfTable item.columns
    → Each (names.insert tables name item) (λ n table. AreColumnsOfTable table.columns)
columns_more tables name item each columns other table there = elim (cases_insert tables name item other table there) [
  | inl same ↦ subst (λ (t : catalog.TableItem). AreColumnsOfTable t.columns) same.1 columns
  | inr was ↦ each other table was
]

pub none_there : {X : Type 0} (values : Names X) (name : Name) → has values name ≡ false → names.get values name ≡ None
none_there values name new = elim (names.get values name) as (λ o. is_some o ≡ false → o ≡ None) [
  | None ↦ λ e. refl
  | Some x ↦ λ e. absurd (false≢true (sym e))
] new
