-- Those so far, and those that are left.
use Rattle.std.proofs.Common.{◌≡◌, ◌++◌, map}
use Rattle.std.specs.FinMap as names
use Rattle.rs_catalog.specs.Names.{entries_by_bytes}
use Rattle.rs_dump.specs.Sections.{named_table, table_seen}
use Rattle.rs_dump.proofs.definitions.tables_of.Given as goal

abbrev pub invariant-loop-name : goal.invariant-loop-name
invariant-loop-name l = map table_seen l.tables.items ++ map named_table (entries_by_bytes (λ x. x) l.name-iterator) ≡ map named_table (names.entries l.catalog.tables)
