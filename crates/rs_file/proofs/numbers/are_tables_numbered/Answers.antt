-- Each table in turn.
use Rattle.std.proofs.Common.{◌≡◌, refl, true, arith}
use Rattle.std.proofs.lemmas.Bool.{false≢true}
use Rattle.rs_catalog_pages.specs.declared.items.StoredTable.{StoredTable}
use Rattle.rs_file.proofs.Numbering.{once_all, once_at}
use Rattle.rs_file.proofs.numbers.are_tables_numbered.Goals as goal

pub returns-then-not-is_table_numbered : goal.returns-then-not-is_table_numbered
returns-then-not-is_table_numbered c = (
  λ e. absurd (false≢true e),
  λ once.
      let here : c.is_table_numbered.result ≡ true = c.is_table_numbered.ensures.1
      (once_at (λ (table : StoredTable). table.number) 128 c.args.tables.now c.loop-table.table-index c.table-item.result (omega arith) c.table-item.is once) in
      cc,
)

pub returns : goal.returns
returns c = (
  λ _. once_all (λ (table : StoredTable). table.number) 128 c.args.tables.now c.loop-table.table-index (omega arith) c.loop-table.invariant,
  λ _. refl,
)
