-- Where a table stands among those of a file.
use Rattle.std.specs.Prelude.{◌≡◌, ◌<◌, ℕ, List, Some, length, slice_get}
use Rattle.rs_catalog.specs.Definitions.{TableItem}
use Rattle.rs_catalog_pages.specs.Said.{said_catalogue}
use Rattle.rs_catalog_pages.specs.declared.items.StoredTable.{StoredTable}
use Rattle.rs_file.specs.Contents.{table_numbers}
use Rattle.rs_file.specs.declared.opened.OpenedFile.{OpenedFile}
use Rattle.rs_file.specs.declared.opened.OpenedTable.{OpenedTable}
use Rattle.rs_machine.specs.Checks.{column_types}

-- the table at the place has this number
pub record IsNumberedAt (tables : List StoredTable) (number place : ℕ) : Type 0 where
  pub table : StoredTable
  pub there : slice_get tables place ≡ Some table
  pub numbered : table.number ≡ number

-- none has it
pub record HasNoNumber (tables : List StoredTable) (number : ℕ) : Type 0 where
  pub none : (place : ℕ) (table : StoredTable) → slice_get tables place ≡ Some table → table.number ≡ number → ⊥

-- the file has the table at this place, with its columns
pub record IsPlaceOf (file : OpenedFile) (table : TableItem) (place : ℕ) : Type 0 where
  pub numbered : slice_get (table_numbers (said_catalogue file.definitions)) place ≡ Some table.number
  pub below : place < length file.tables.items
  pub types : (opened : OpenedTable) → slice_get file.tables.items place ≡ Some opened → opened.records.types ≡ column_types table.columns
