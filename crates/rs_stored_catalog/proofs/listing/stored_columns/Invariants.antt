use Rattle.std.proofs.Common.{◌≡◌, map, take}
use Rattle.rs_catalog_pages.specs.Said.{said_column}
use Rattle.rs_syntax.specs.View.{column_tree}
use Rattle.rs_syntax.specs.declared.commands.ColumnDefinition.{ColumnDefinition}
use Rattle.rs_stored_catalog.specs.Listing.{listed_column}
use Rattle.rs_stored_catalog.proofs.listing.stored_columns.Given as goal

-- the columns so far
abbrev pub invariant-loop-column : goal.invariant-loop-column
invariant-loop-column l = map said_column l.stored.items ≡ map (λ (column : ColumnDefinition). listed_column (column_tree column)) (take l.column-index l.columns)
