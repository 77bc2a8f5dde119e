-- What is kept of both lists is what has another number.
use Rattle.std.proofs.Common.{◌≡◌, ◌==◌, ◌∙◌, ap, filter, map, not, rules}
use Rattle.std.proofs.lemmas.Fn.{filter_same}
use Rattle.rs_catalog_pages.specs.Items.{IndexItem, TableItem}
use Rattle.rs_catalog_pages.specs.Said.{said_alignment, said_index, said_route, said_table, said_view}
use Rattle.rs_catalog_pages.specs.declared.items.StoredIndex.{StoredIndex}
use Rattle.rs_catalog_pages.specs.declared.items.StoredTable.{StoredTable}
use Rattle.rs_store.specs.Tabling.{without_number}
use Rattle.rs_store.proofs.TableLess.{passing_seen}
use Rattle.rs_store.proofs.tabling.stored_without_table.Goals as goal

pub returns : goal.returns
returns c =
    let number = c.args.number in
    let stored = c.in_ok-stored.stored in
    let tables : map said_table c.retain.new.self.items ≡ filter (λ (t : TableItem). not (t.number == number)) (map said_table stored.tables.items) =
    ap (map said_table) (filter_same _ (λ (t : StoredTable). not (t.number == number)) _ (λ x b f' k. search rules) _ _ c.retain.ensures.filtered)
    ∙ passing_seen said_table (λ (t : TableItem). not (t.number == number)) stored.tables.items in
    let indexes : map said_index c.retain-2.new.self.items ≡ filter (λ (x : IndexItem). not (x.table == number)) (map said_index stored.indexes.items) =
    ap (map said_index) (filter_same _ (λ (x : StoredIndex). not (x.table == number)) _ (λ x b f' k. search rules) _ _ c.retain-2.ensures.filtered)
    ∙ passing_seen said_index (λ (x : IndexItem). not (x.table == number)) stored.indexes.items in
    (λ i. record {
      routes = map said_route stored.routes.items;
      tables = tables i;
      indexes = indexes i;
      views = map said_view stored.views.items;
      alignments = map said_alignment stored.alignments.items;
    }) ∙ ap (without_number number) c.in_ok-stored.ensures
