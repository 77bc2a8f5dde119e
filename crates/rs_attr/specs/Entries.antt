-- The entries of an attribute index: for each cell of a table the bytes of one of its values, and then the cell.
use Rattle.std.specs.Prelude.{◌≡◌, ◌≤◌, ℕ, ◌+◌, ◌*◌, Some, List, [], ◌++◌, IsPermutation, drop, length, map, slice_get, take}
use Rattle.std.specs.List.{AllByRecursion}
use Rattle.rs_page.specs.declared.header.TheConstants.{PAGE_ROOM}
use Rattle.rs_page_owners.specs.Counts.{◌&◌}
use Rattle.rs_page_owners.specs.Owners.{Moves, Shares}
use Rattle.rs_pages.specs.PageMap.{PageMap}
use Rattle.rs_records.specs.Order.{Ascends}
use Rattle.rs_tree.specs.declared.summary.NoSummary.{NoSummary}
use Rattle.rs_tree.specs.Form.{Form, form_of}
use Rattle.rs_tree.specs.Tree.{IsTree}
use Rattle.rs_value.specs.declared.column.ColumnType.{ColumnType}
use Rattle.rs_value.specs.Encoding.{row_width, width}
use Rattle.rs_versioned.specs.Events.{event_width}

-- where a cell has the values of a column: their type, the byte at which they begin, and how many bytes the cell has
pub record Field : Type 0 where
  pub column : ColumnType
  pub start : ℕ
  pub cell_width : ℕ

-- the field is the column with this number, in the cells of events with rows of these columns
pub record IsColumn (types : List ColumnType) (column : ℕ) (field : Field) : Type 0 where
  pub type : slice_get types column ≡ Some field.column
  pub start : field.start ≡ 8 + row_width (take column types)
  pub cell_width : field.cell_width ≡ event_width types

-- three entries of an inner page of the index of this column fit it
pub record FitsPages (types : List ColumnType) (column : ℕ) : Type 0 where
  pub fits : (type : ColumnType) → slice_get types column ≡ Some type → 3 * (4 + (width type + event_width types)) ≤ PAGE_ROOM

-- the bytes of the value that a cell has in the field
abbrev pub value_in : Field → List ℕ → List ℕ
value_in field cell = take (width field.column) (drop field.start cell)

-- the entry of a cell
abbrev pub entry_of : Field → List ℕ → List ℕ
entry_of field cell = value_in field cell ++ cell

-- how many bytes an entry has
abbrev pub entry_bytes : Field → ℕ
entry_bytes field = width field.column + field.cell_width

-- the form of a tree of cells of this width, which keeps no summaries
abbrev pub plain_form : ℕ → Form
plain_form = form_of (λ bytes (_ : NoSummary). bytes ≡ []) (record {}) (λ _ _. record {}) (λ _. record {}) 0

-- the form of a tree of entries
abbrev pub index_form : Field → Form
index_form field = plain_form (entry_bytes field)

-- the entries of just these cells lie in a tree with these pages
pub record HoldsIndex (field : Field) (pages : PageMap) (root : ℕ) (cells : List (List ℕ)) (used : ℕ → ℕ) : Type 0 where
  pub entries : List (List ℕ)
  pub tree : IsTree (index_form field) pages root entries used
  pub are : IsPermutation entries (map (entry_of field) cells)

-- cells of this width in their order
pub record AreCells (width : ℕ) (cells : List (List ℕ)) : Type 0 where
  pub wide : AllByRecursion (λ cell. length cell ≡ width) cells
  pub ascend : Ascends cells

-- the entries of other cells have taken the place of these, and their pages have moved beside those of any other owners
pub record BecomesIndex (field : Field) (old new : PageMap) (root : ℕ) (before : ℕ → ℕ) (cells : List (List ℕ)) : Type 0 where
  pub after : ℕ → ℕ
  pub holds : HoldsIndex field new root cells after
  pub moves : Moves old new before after

-- where the entries of some cells lie there, whose pages are shared with other owners and a free list, those of changed cells
-- take their place
pub record ChangesIndex (field : Field) (old new : PageMap) (root to : ℕ) (change : List (List ℕ) → List (List ℕ)) : Type 0 where
  pub each : (cells : List (List ℕ)) (used others : ℕ → ℕ) → AreCells field.cell_width cells → HoldsIndex field old root cells used
      → Shares old (used & others) → BecomesIndex field old new to used (change cells)

-- no entries of cells lie there, with pages that are shared with other owners and a free list
pub record HoldsNoIndex (field : Field) (pages : PageMap) (root : ℕ) : Type 0 where
  pub none : (cells : List (List ℕ)) (used others : ℕ → ℕ) → HoldsIndex field pages root cells used → Shares pages (used & others) → ⊥
