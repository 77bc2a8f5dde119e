-- What is left of the list is what the other routes list.
use Rattle.std.proofs.Common.{◌≡◌, ◌∙◌, List, filter, map, not, ap, refl, rules, string_bytes}
use Rattle.std.specs.FinMap as names
use Rattle.std.proofs.lemmas.Fn.{filter_same}
use Rattle.rs_catalog.specs.Changes as changes
use Rattle.rs_catalog_pages.specs.Items.{CatalogueItems, RouteItem}
use Rattle.rs_catalog_pages.specs.Said.{said_catalogue, said_route}
use Rattle.rs_catalog_pages.specs.declared.items.StoredRoute.{StoredRoute}
use Rattle.rs_facts.specs.Insert.{same_name}
use Rattle.rs_store.proofs.Listed.{listed_without, seen_passing}
use Rattle.rs_store.proofs.Redefined.{stood_there}
use Rattle.rs_store.proofs.routing.definitions_without_route.Goals as goal
use Rattle.rs_stored_catalog.specs.Listing.{listed_route, listing_of}

pub returns : goal.returns
returns c =
    let name = c.args.name.now.bytes in
    let catalog = c.args.catalog.now in
    let was = c.in_ok-definitions.definitions in
    let now = listing_of (changes.without_route catalog name) in
    let one = stood_there catalog.routes name c.requires.there in
    let more = c.one_route_is_listed_more_or_less.ensures.less catalog name one.0 one.1 c.requires.unused in
    let others : List RouteItem → List RouteItem = filter (λ route. not (same_name name route.name)) in
    let left : map said_route c.retain.new.self.items ≡ map listed_route (names.entries (names.remove catalog.routes name)) =
    ap (map said_route) (filter_same _ (λ (route : StoredRoute). not (same_name name (string_bytes route.name.value))) _ (λ x b f' k. search rules) _ _ c.retain.ensures.filtered)
    ∙ seen_passing said_route (λ (route : StoredRoute). not (same_name name (string_bytes route.name.value))) (λ route. not (same_name name route.name)) was.routes.items (λ route. refl)
    ∙ ap (λ (items : CatalogueItems). others items.routes) c.in_ok-definitions.ensures
    ∙ listed_without catalog.routes name listed_route (λ route. route.name) (λ entry. refl) in
    ap (λ (routes : List RouteItem). record (said_catalogue was) { routes = routes }) left
    ∙ ap (λ (items : CatalogueItems). record items { routes = now.routes }) c.in_ok-definitions.ensures
    ∙ ap (λ (items : CatalogueItems). record items { routes = now.routes }) more.others
