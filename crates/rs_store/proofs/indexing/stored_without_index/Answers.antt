-- What is kept of the list is what has another number.
use Rattle.std.proofs.Common.{◌≡◌, ◌==◌, ◌∙◌, ap, filter, map, not, rules}
use Rattle.std.proofs.lemmas.Fn.{filter_same}
use Rattle.rs_catalog_pages.specs.Items.{IndexItem}
use Rattle.rs_catalog_pages.specs.Said.{said_alignment, said_index, said_route, said_table, said_view}
use Rattle.rs_catalog_pages.specs.declared.items.StoredIndex.{StoredIndex}
use Rattle.rs_store.specs.Indexing.{without_index_numbered}
use Rattle.rs_store.proofs.TableLess.{passing_seen}
use Rattle.rs_store.proofs.indexing.stored_without_index.Goals as goal

pub returns : goal.returns
returns c =
    let number = c.args.number in
    let stored = c.in_ok-stored.stored in
    let indexes : map said_index c.retain.new.self.items ≡ filter (λ (x : IndexItem). not (x.number == number)) (map said_index stored.indexes.items) =
    ap (map said_index) (filter_same _ (λ (x : StoredIndex). not (x.number == number)) _ (λ x b f' k. search rules) _ _ c.retain.ensures.filtered)
    ∙ passing_seen said_index (λ (x : IndexItem). not (x.number == number)) stored.indexes.items in
    (λ i. record {
      routes = map said_route stored.routes.items;
      tables = map said_table stored.tables.items;
      indexes = indexes i;
      views = map said_view stored.views.items;
      alignments = map said_alignment stored.alignments.items;
    }) ∙ ap (without_index_numbered number) c.in_ok-stored.ensures
