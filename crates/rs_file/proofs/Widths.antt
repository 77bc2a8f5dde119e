-- Rows and columns that are not wide.
use Rattle.std.proofs.Common.{◌≤◌, ◌+◌, ◌*◌, ℕ, List, arith}
use Rattle.std.specs.List.{AllByRecursion}
use Rattle.rs_attr.specs.Entries.{FitsPages}
use Rattle.rs_tree.proofs.Lists.{all_at}
use Rattle.rs_value.specs.Encoding.{row_width, width}
use Rattle.rs_value.specs.declared.column.ColumnType.{ColumnType}
use Rattle.rs_value.specs.declared.column.TheConstants.{ROW_BYTES, TEXT_BYTES}
use Rattle.rs_versioned.specs.Events.{event_width}

pub table_fits : (types : List ColumnType) → row_width types ≤ ROW_BYTES → 3 * (8 + event_width types) ≤ 4080
table_fits types narrow = omega (arith, narrow)

pub index_fits : (types : List ColumnType) → row_width types ≤ ROW_BYTES → AllByRecursion (λ type. width type ≤ TEXT_BYTES + 1) types → (column : ℕ) → FitsPages types column
index_fits types narrow all column = record {
  fits = λ type there. omega (arith, narrow, all_at (λ type. width type ≤ TEXT_BYTES + 1) types column type all there);
}
