-- The types of the columns so far.
use Rattle.std.proofs.Common.{◌≡◌, ◌≤◌, map, take}
use Rattle.arrayvec.specs.ArrayVec.{array_vec_len}
use Rattle.rs_catalog_pages.specs.Said.{said_column}
use Rattle.rs_file.specs.Contents.{type_of}
use Rattle.rs_value.specs.declared.column.TheConstants.{COLUMNS}
use Rattle.rs_file.proofs.definitions.schema_of.Given as goal

abbrev pub invariant-loop-column : goal.invariant-loop-column
invariant-loop-column l = record {
  types : l.schema.items ≡ map (λ column. type_of (said_column column)) (take l.column-index l.table.columns.list.items);
  len : array_vec_len l.schema ≡ l.column-index;
  few : l.column-index ≤ COLUMNS;
}
