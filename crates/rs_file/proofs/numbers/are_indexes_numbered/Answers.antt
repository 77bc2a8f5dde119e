-- Each index in turn.
use Rattle.std.proofs.Common.{◌≡◌, ◌<◌, map, refl, true, arith}
use Rattle.std.proofs.lemmas.Bool.{false≢true}
use Rattle.rs_catalog_pages.specs.declared.items.StoredIndex.{StoredIndex}
use Rattle.rs_catalog_pages.specs.declared.items.StoredTable.{StoredTable}
use Rattle.rs_page_owners.specs.Counts.{times}
use Rattle.rs_file.proofs.Numbering.{each_all, each_at, once_all, once_at}
use Rattle.rs_file.proofs.numbers.are_indexes_numbered.Goals as goal

pub returns-then-not-is_index_numbered : goal.returns-then-not-is_index_numbered
returns-then-not-is_index_numbered c = (
  λ e. absurd (false≢true e),
  λ numbered.
      let once = once_at (λ (index : StoredIndex). index.number) 64 c.args.indexes.now c.loop-index.index-index c.index-item.result (omega arith) c.index-item.is (numbered.0, numbered.1) in
      let of_table = each_at (λ (index : StoredIndex). 0 < times (map (λ (table : StoredTable). table.number) c.args.tables.now) index.table) c.args.indexes.now c.loop-index.index-index c.index-item.result
      (omega arith) c.index-item.is numbered.2 in
      let here : c.is_index_numbered.result ≡ true = c.is_index_numbered.ensures.1 (once.0, once.1, of_table) in
      cc,
)

pub returns : goal.returns
returns c = (
  λ _.
      let once = once_all (λ (index : StoredIndex). index.number) 64 c.args.indexes.now c.loop-index.index-index (omega arith)
      (λ k d from to. ((c.loop-index.invariant k d from to).0, (c.loop-index.invariant k d from to).1)) in (
        once.0,
        once.1,
        each_all (λ (index : StoredIndex). 0 < times (map (λ (table : StoredTable). table.number) c.args.tables.now) index.table) c.args.indexes.now c.loop-index.index-index (omega arith)
            (λ k d from to. (c.loop-index.invariant k d from to).2),
      ),
  λ _. refl,
)
