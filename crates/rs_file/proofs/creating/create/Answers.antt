-- What was stored says that there are no definitions.
use Rattle.std.proofs.Common.{◌≡◌, [], length, map}
use Rattle.std.proofs.lemmas.Result.{IfOk-weaker}
use Rattle.rs_catalog_pages.specs.Items.{CatalogueItems}
use Rattle.rs_catalog_pages.specs.Said.{said_alignment, said_index, said_route, said_table, said_view}
use Rattle.rs_catalog_pages.specs.Storing.{HasNoOwnBytes, StoresCatalogue}
use Rattle.rs_file.specs.Contents.{HoldsAll}
use Rattle.rs_file.specs.Creating.{no_contents, no_definitions}
use Rattle.rs_file.proofs.Created.{created, few_pages, not_damaged, not_refused, one_page}
use Rattle.rs_file.proofs.creating.create.Goals as goal

pub returns-clause-creates : goal.returns-clause-creates
returns-clause-creates g c = λ tied empty.
    let was = g.P.Pages.store c.args.pages.now in
    let old = was.map in
    let new = (g.P.Pages.store c.store.new.pages).map in
    let said : CatalogueItems = record {
      routes = map said_route c.new.result.items;
      tables = map said_table c.new-2.result.items;
      indexes = map said_index c.new-3.result.items;
      views = map said_view c.new-4.result.items;
      alignments = map said_alignment c.new-5.result.items;
    } in
    let none : said ≡ no_definitions = λ i. record {
      routes = map said_route (c.new.ensures.items i);
      tables = map said_table (c.new-2.ensures.items i);
      indexes = map said_index (c.new-3.ensures.items i);
      views = map said_view (c.new-4.ensures.items i);
      alignments = map said_alignment (c.new-5.ensures.items i);
    } in
    let one = IfOk-weaker c.store.result (λ after. StoresCatalogue old new [] after.items said) (λ numbers. length numbers.items ≡ 1)
    (λ numbers stores. one_page old new numbers.items said empty none stores) (c.store.ensures.stores tied) in
    record {
      holds = IfOk-weaker c.store.result (λ after. StoresCatalogue old new [] after.items said) (λ numbers. HoldsAll new (no_contents numbers.items))
          (λ numbers stores. created old new numbers.items said empty none stores) (c.store.ensures.stores tied);
      one = one;
      few = few_pages (λ (after : _). length after.items) c.store.result old new.fields.pages empty one c.store.ensures.count;
      sound = not_refused c.store.result (g.P.Pages.is_tied c.args.pages.now → HasNoOwnBytes old []) was (g.P.Pages.store c.store.new.pages) c.store.ensures.leaves.works (λ damaged. not_damaged old empty (damaged tied));
    }
