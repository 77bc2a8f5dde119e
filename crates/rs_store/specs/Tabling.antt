-- What becomes of a file, and of the definitions in memory, as tables and indexes come and go.
use Rattle.std.specs.Prelude.{◌≡◌, ◌≤◌, ◌+◌, ◌*◌, ◌==◌, ℕ, List, Some, filter, length, map, not, slice_get}
use Rattle.std.specs.FinMap as names
use Rattle.rs_catalog.specs.Definitions as catalog
use Rattle.rs_catalog_pages.specs.Items.{CatalogueItems, TableItem}
use Rattle.rs_catalog_pages.specs.Said.{said_table}
use Rattle.rs_catalog_pages.specs.declared.items.StoredTable.{StoredTable}
use Rattle.rs_changes.specs.Parts.{PutsTable, TakesTable}
use Rattle.rs_facts.specs.Fact.{Name, Names}
use Rattle.rs_file.specs.Contents.{Contents, table_numbers, type_of}
use Rattle.rs_store.specs.Placing.{HasNoNumber}
use Rattle.rs_stored_catalog.specs.Relisting.{HasTableMore}
use Rattle.rs_value.specs.declared.column.ColumnType.{ColumnType}
use Rattle.rs_value.specs.declared.column.TheConstants.{COLUMNS}
use Rattle.rs_versioned.specs.Events.{event_width}

-- one table more, of this number, with no more columns than a line can name, and three entries of its tree fit a page
pub record HasNumberedMore (number : ℕ) (old now : CatalogueItems) : Type 0 where
  pub item : TableItem
  pub more : HasTableMore item old now
  pub numbered : item.number ≡ number
  pub few : length item.columns ≤ COLUMNS
  pub fits : 3 * (8 + event_width (map type_of item.columns)) ≤ 4080

-- a table without events has come at the place where the table of this number is listed
pub record PutsNumbered (number : ℕ) (listing : CatalogueItems) (old now : Contents) : Type 0 where
  pub place : ℕ
  pub types : List ColumnType
  pub at : slice_get (table_numbers listing) place ≡ Some number
  pub puts : PutsTable place types listing old now

-- some table has the number; each that has it has no more columns than a line can name, and three entries of its tree fit a page
pub record HasNumbered (tables : List StoredTable) (number : ℕ) : Type 0 where
  pub some : HasNoNumber tables number → ⊥
  pub few : (place : ℕ) (table : StoredTable) → slice_get tables place ≡ Some table → table.number ≡ number → length (said_table table).columns ≤ COLUMNS
  pub fits : (place : ℕ) (table : StoredTable) → slice_get tables place ≡ Some table → table.number ≡ number
      → 3 * (8 + event_width (map type_of (said_table table).columns)) ≤ 4080

-- the table at the place has this number, and columns of these types
pub record HasColumnsAt (tables : List StoredTable) (number place : ℕ) (types : List ColumnType) : Type 0 where
  pub table : StoredTable
  pub there : slice_get tables place ≡ Some table
  pub numbered : table.number ≡ number
  pub types_are : types ≡ map type_of (said_table table).columns

-- the same definitions without the table of this number and its indexes
abbrev pub without_number : ℕ → CatalogueItems → CatalogueItems
without_number number items = record items {
  tables = filter (λ table. not (table.number == number)) items.tables;
  indexes = filter (λ index. not (index.table == number)) items.indexes;
}

-- the table that was under this name has gone from the place where it was listed
pub record TakesNamed (tables : Names catalog.TableItem) (name : Name) (listing : CatalogueItems) (old now : Contents) : Type 0 where
  pub item : catalog.TableItem
  pub there : names.get tables name ≡ Some item
  pub place : ℕ
  pub at : slice_get (table_numbers old.definitions) place ≡ Some item.number
  pub takes : TakesTable place listing old now
