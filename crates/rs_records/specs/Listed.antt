-- What a list of records in memory has.
use Rattle.std.specs.Prelude.{ℕ, List}
use Rattle.rs_records.specs.Records.{records}
use Rattle.rs_records.specs.declared.cells.Cells.{Cells}

-- the records, from the first on
abbrev pub listed : Cells → List (List ℕ)
listed cells = records cells.count cells.width cells.bytes.items

-- how many bytes each record has
abbrev pub record_width : Cells → ℕ
record_width cells = cells.width
