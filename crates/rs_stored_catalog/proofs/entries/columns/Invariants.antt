use Rattle.std.proofs.Common.{◌≡◌, map, take}
use Rattle.rs_catalog_meaning.specs.Meaning.{column_of}
use Rattle.rs_catalog_pages.specs.Said.{said_column}
use Rattle.rs_catalog_pages.specs.declared.items.StoredColumn.{StoredColumn}
use Rattle.rs_syntax.specs.View.{column_tree}
use Rattle.rs_stored_catalog.proofs.entries.columns.Given as goal

-- the columns so far
abbrev pub invariant-loop-column : goal.invariant-loop-column
invariant-loop-column l = map column_tree l.made.items ≡ map (λ (c : StoredColumn). column_of (said_column c)) (take l.column-index l.columns)
