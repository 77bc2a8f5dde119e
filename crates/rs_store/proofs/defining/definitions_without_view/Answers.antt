-- What is left of the list is what the other views list.
use Rattle.std.proofs.Common.{◌≡◌, ◌∙◌, List, filter, map, not, ap, refl, rules, string_bytes}
use Rattle.std.specs.FinMap as names
use Rattle.std.proofs.lemmas.Fn.{filter_same}
use Rattle.rs_catalog_pages.specs.Items.{CatalogueItems, ViewItem}
use Rattle.rs_catalog_pages.specs.Said.{said_catalogue, said_view}
use Rattle.rs_catalog_pages.specs.declared.items.StoredView.{StoredView}
use Rattle.rs_facts.specs.Insert.{same_name}
use Rattle.rs_store.proofs.Listed.{listed_without, seen_passing}
use Rattle.rs_store.proofs.defining.definitions_without_view.Goals as goal
use Rattle.rs_stored_catalog.specs.Listing.{listed_view}

pub returns : goal.returns
returns c =
    let name = c.args.name.now.bytes in
    let was = c.in_ok-definitions.definitions in
    let others : List ViewItem → List ViewItem = filter (λ view. not (same_name name view.name)) in
    let left : map said_view c.retain.new.self.items ≡ map listed_view (names.entries (names.remove c.args.catalog.now.views name)) =
    ap (map said_view) (filter_same _ (λ (view : StoredView). not (same_name name (string_bytes view.name))) _ (λ x b f' k. search rules) _ _ c.retain.ensures.filtered)
    ∙ seen_passing said_view (λ (view : StoredView). not (same_name name (string_bytes view.name))) (λ view. not (same_name name view.name)) was.views.items (λ view. refl)
    ∙ ap (λ (items : CatalogueItems). others items.views) c.in_ok-definitions.ensures
    ∙ listed_without c.args.catalog.now.views name listed_view (λ view. view.name) (λ entry. refl) in
    ap (λ (views : List ViewItem). record (said_catalogue was) { views = views }) left
    ∙ ap (λ (items : CatalogueItems). record items { views = map listed_view (names.entries (names.remove c.args.catalog.now.views name)) }) c.in_ok-definitions.ensures
