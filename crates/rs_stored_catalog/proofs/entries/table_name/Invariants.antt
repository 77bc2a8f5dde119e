use Rattle.std.proofs.Common.{◌≡◌, map, drop}
use Rattle.rs_catalog_meaning.specs.Stating.{table_with}
use Rattle.rs_catalog_pages.specs.Said.{said_table}
use Rattle.rs_stored_catalog.proofs.entries.table_name.Given as goal

-- none so far is the one
abbrev pub invariant-loop-table : goal.invariant-loop-table
invariant-loop-table l = table_with (map said_table l.tables) l.number l.column ≡ table_with (map said_table (drop l.table-index l.tables)) l.number l.column
