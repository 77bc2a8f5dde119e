-- The definitions of a file are those of a catalogue, whatever its views say.
use Rattle.std.proofs.Common.{◌≡◌, ◌≤◌, ◌+◌, ℕ, List, [], ◌∷◌, refl, sym, ap, subst, ◌∙◌, arith}
use Rattle.std.specs.List.{AllByRecursion, AllZip}
use Rattle.std.specs.FinMap as names
use Rattle.std.specs.FinMap.{len-empty, len-entries}
use Rattle.std.proofs.lemmas.List.{nil_from_length}
use Rattle.rs_catalog.specs.Definitions.{AreDefinitions, Definitions}
use Rattle.rs_catalog_meaning.specs.Meaning.{AreMeant}
use Rattle.rs_catalog_pages.specs.Items.{CatalogueItems, RouteItem}
use Rattle.rs_facts.specs.Fact.{name_cmp}
use Rattle.rs_file_meaning.specs.Contents.{AreGivenOnce}
use Rattle.rs_file_meaning.specs.States.{AreDefinitionsAt, IsViewOf, routes_named}
use Rattle.rs_file_meaning.proofs.Picked.{born_all}
use Rattle.rs_stored_catalog.specs.Made.{without_views}

abbrev viewless : CatalogueItems → CatalogueItems
viewless catalogue = record catalogue { views = [] }

-- a version by which each was born
abbrev latest : List RouteItem → ℕ
latest [] = 0
latest (route ∷ routes) = route.born + latest routes

born_later : (version later : ℕ) (routes : List RouteItem) → version ≤ later → AllByRecursion (λ (route : RouteItem). route.born ≤ version) routes → AllByRecursion (λ (route : RouteItem). route.born ≤ later) routes
born_later version later [] from born = tt
born_later version later (route ∷ routes) from born = (omega (arith, born.0, from), born_later version later routes from born.1)

born-latest : (routes : List RouteItem) → AllByRecursion (λ (route : RouteItem). route.born ≤ latest routes) routes
born-latest [] = tt
born-latest (route ∷ routes) = (omega arith, born_later (latest routes) (route.born + latest routes) routes (omega arith) (born-latest routes))

no_entries : {X : Type 0} → names.entries (names.empty {X = X} {R = name_cmp}) ≡ []
no_entries {X} = nil_from_length (names.entries (names.empty {X = X} {R = name_cmp})) (sym (len-entries (names.empty {X = X} {R = name_cmp})) ∙ len-empty name_cmp X)

pub seen : (version : ℕ) (catalogue : CatalogueItems) → AllByRecursion (λ (route : RouteItem). route.born ≤ version) catalogue.routes
    → AreDefinitionsAt version (viewless catalogue) (without_views catalogue)
seen version catalogue born = record {
  routes = ap routes_named (sym (born_all version catalogue.routes born));
  tables = refl;
  indexes = refl;
  views = subst (AllZip IsViewOf []) (sym no_entries) tt;
  alignments = refl;
}

meant : (catalogue : CatalogueItems) → AreMeant catalogue → AreMeant (viewless catalogue)
meant catalogue is = record {
  routes = is.routes;
  tables = is.tables;
  indexes = is.indexes;
  views = record { in_order = refl; each = tt; few = omega arith };
  alignments = is.alignments;
}

given : (catalogue : CatalogueItems) → AreGivenOnce catalogue → AreGivenOnce (viewless catalogue)
given catalogue is = record {
  tables_below = is.tables_below;
  tables_once = is.tables_once;
  indexes_below = is.indexes_below;
  indexes_once = is.indexes_once;
  of_tables = is.of_tables;
}

-- the law of a file's definitions
abbrev AreCatalogues : Type 0
AreCatalogues = (version : ℕ) (catalogue : CatalogueItems) (definitions : Definitions) → AreMeant catalogue → AreGivenOnce catalogue
    → AllByRecursion (λ (route : RouteItem). route.born ≤ version) catalogue.routes → AreDefinitionsAt version catalogue definitions → AreDefinitions definitions

pub are : AreCatalogues → (catalogue : CatalogueItems) → AreMeant catalogue → AreGivenOnce catalogue → AreDefinitions (without_views catalogue)
are law catalogue is once =
    let version = latest catalogue.routes in
    law version (viewless catalogue) (without_views catalogue) (meant catalogue is) (given catalogue once) (born-latest catalogue.routes) (seen version catalogue (born-latest catalogue.routes))
