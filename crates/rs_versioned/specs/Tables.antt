-- What a table of records is to its callers.
use Rattle.std.specs.Prelude.{List}
use Rattle.rs_value.specs.declared.column.ColumnType.{ColumnType}
use Rattle.rs_cell_versions.specs.Versioned.{Standing}
use Rattle.rs_versioned.specs.declared.referent_table.Referents.{Referents}

-- the types that its records have, how they stand now, and how they stood at the last commit
pub record TableState (T : Type 0) : Type 0 where
  pub types : T
  pub working : Standing
  pub committed : Standing

-- events have the columns of their rows
abbrev pub EventTableState : Type 0
EventTableState = TableState (List ColumnType)

-- referents are all of one type
abbrev pub ReferentTableState : Type 0
ReferentTableState = TableState Referents
