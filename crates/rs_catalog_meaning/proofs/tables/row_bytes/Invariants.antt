use Rattle.std.proofs.Common.{◌≡◌, ◌+◌, ◌*◌, ◌≤◌, drop, map}
use Rattle.rs_catalog_pages.specs.Said.{said_column}
use Rattle.rs_machine.specs.Checks.{column_types}
use Rattle.rs_value.specs.Encoding.{row_width}
use Rattle.rs_catalog_meaning.specs.Meaning.{columns_of}
use Rattle.rs_catalog_meaning.proofs.tables.row_bytes.Given as goal

abbrev pub invariant-loop-column : goal.invariant-loop-column
invariant-loop-column l = record {
  sum : l.total + row_width (column_types (columns_of (map said_column (drop l.column-index l.columns)))) ≡ row_width (column_types (columns_of (map said_column l.columns)));
  few : l.total ≤ 256 * l.column-index;
}
