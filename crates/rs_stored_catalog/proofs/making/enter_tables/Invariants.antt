use Rattle.std.proofs.Common.{◌≡◌, map}
use Rattle.rs_catalog_pages.specs.Items.{TableItem}
use Rattle.rs_catalog_pages.specs.Said.{said_table}
use Rattle.rs_file_meaning.specs.States.{named_table}
use Rattle.rs_stored_catalog.proofs.Entering.{so_far}
use Rattle.rs_stored_catalog.proofs.making.enter_tables.Given as goal

-- the tables so far
abbrev pub invariant-loop-table : goal.invariant-loop-table
invariant-loop-table l = l.catalog ≡ record l.fn.catalog { tables = so_far (λ (x : TableItem). x.name) (λ x. (named_table x).1) (map said_table l.tables) l.table-index }
