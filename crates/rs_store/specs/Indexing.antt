-- What becomes of a file as indexes come and go, and where an index is among those of its table.
use Rattle.std.specs.Prelude.{◌≡◌, ◌<◌, ◌==◌, ℕ, List, [], ◌∷◌, Some, filter, if◌then◌else◌, length, map, not, slice_get}
use Rattle.rs_attr.specs.Entries.{FitsPages}
use Rattle.rs_catalog.specs.Definitions as catalog
use Rattle.rs_catalog_pages.specs.Items.{CatalogueItems, IndexItem, TableItem}
use Rattle.rs_changes.specs.Parts.{ChangesIndexes}
use Rattle.rs_facts.specs.Fact.{Name}
use Rattle.rs_file.specs.Contents.{Contents, type_of}
use Rattle.rs_file.specs.Slots.{indexes_on}
use Rattle.rs_stored_catalog.specs.Listing.{listed_index}
use Rattle.rs_stored_catalog.specs.Relisting.{HasIndexMore}

-- the indexes before the one of this number
abbrev pub those_before : ℕ → List IndexItem → List IndexItem
those_before number [] = []
those_before number (index ∷ indexes) = if index.number == number then [] else (index ∷ those_before number indexes)

-- how many of them are of a table
abbrev pub position_among : ℕ → ℕ → List IndexItem → ℕ
position_among number table indexes = length (indexes_on (those_before number indexes) table)

-- the same definitions without the index of this number
abbrev pub without_index_numbered : ℕ → CatalogueItems → CatalogueItems
without_index_numbered number items = record items { indexes = filter (λ index. not (index.number == number)) items.indexes }

-- one index more, of a column of the table at the place, three entries of whose tree fit a page
pub record HasIndexListed (name : Name) (item : catalog.IndexItem) (place : ℕ) (old now : CatalogueItems) : Type 0 where
  pub more : HasIndexMore (listed_index (name, item)) old now
  pub table : TableItem
  pub there : slice_get now.tables place ≡ Some table
  pub of_table : item.table_number ≡ table.number
  pub below : item.column < length table.columns
  pub fits : FitsPages (map type_of table.columns) item.column

-- some table has other indexes, and the same events
pub record ChangesListed (listing : CatalogueItems) (old now : Contents) : Type 0 where
  pub place : ℕ
  pub changes : ChangesIndexes place listing old now
