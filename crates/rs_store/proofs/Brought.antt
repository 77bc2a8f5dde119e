-- Definitions and referents, brought into memory, and what follows where they are not meant.
use Rattle.std.proofs.Common.{◌≡◌, ◌<◌, ◌∙◌, ℕ, List, [], ◌∷◌, refl, sym, ap, subst, arith}
use Rattle.std.proofs.Math.Path.{fun_ext}
use Rattle.std.proofs.lemmas.List.Elements.{All-contains, All-from_recursion}
use Rattle.std.specs.FinMap as names
use Rattle.std.specs.List.{AllByRecursion}
use Rattle.std.specs.Prelude.{◌≤◌, map}
use Rattle.rs_catalog.specs.Definitions as catalog
use Rattle.rs_catalog.specs.Definitions.{Definitions, Numbered, Rest, state_from}
use Rattle.rs_catalog.specs.Referents.{HeldReferents, referents_on}
use Rattle.rs_catalog_meaning.specs.Meaning.{AreMeant, IsTable, ends_of}
use Rattle.rs_catalog_pages.specs.Items.{CatalogueItems, RouteItem, TableItem}
use Rattle.rs_catalog_pages.specs.Said.{said_catalogue}
use Rattle.rs_facts.specs.Fact.{Names}
use Rattle.rs_facts.specs.Query.{Piece}
use Rattle.rs_facts.specs.Runs.{Stretch}
use Rattle.rs_file.specs.Contents.{Contents}
use Rattle.rs_file.specs.Meant.{route_spans, span_of_route}
use Rattle.rs_file.specs.Opening.{IsFile}
use Rattle.rs_file.specs.declared.opened.OpenedFile.{OpenedFile}
use Rattle.rs_file_meaning.specs.Seen.{referents_seen, spans_seen}
use Rattle.rs_file_meaning.specs.States.{AreDefinitionsAt, named_table, tables_named}
use Rattle.rs_file_parts.specs.Parts.{IsCommitted}
use Rattle.rs_machine.specs.Lawful.{AreColumnsOfTable, AreViewsMeant, Each, IsRoute}
use Rattle.rs_machine.specs.State.{no_cursors}
use Rattle.rs_machine.specs.declared.limits.TheConstants.{ROUTES}
use Rattle.rs_pages.specs.PageMap.{PageMap}
use Rattle.rs_stored_catalog.specs.Listing.{listing_of}
use Rattle.rs_stored_catalog.specs.Made.{without_views}
use Rattle.rs_stored_catalog.specs.Referents.{IsSpan, OfThose}
use Rattle.rs_changes.specs.Calls.{MayChange}
use Rattle.rs_file_meaning.proofs.Named.{item_of}
use Rattle.rs_store.specs.Kept.{IsAtRest}
use Rattle.rs_store.specs.Loading.{BringsState, HasNoState, HoldsOpened}
use Rattle.rs_store.proofs.Same.{meant_of_records, records_of_meant}
use Rattle.rs_stored_catalog.specs.Views.{AreMeantIn, HasViews}
use Rattle.rs_cell_versions.specs.Versioned.{Standing}
use Rattle.rs_versioned.specs.Meant.{AreReferentsMeant}
use Rattle.rs_versioned.specs.Records.{HoldsRecords}
use Rattle.rs_versioned.specs.Referents.{kept_referents, referents_at}

-- what is said of catalogues without views
abbrev pub ListedAre : Type 0
ListedAre = (version : ℕ) (catalogue : CatalogueItems) → AllByRecursion (λ route. route.born ≤ version) catalogue.routes
    → AreDefinitionsAt version (record catalogue { views = [] }) (without_views catalogue)

-- a catalogue by its parts
abbrev by_parts : Names catalog.RouteItem → Names catalog.TableItem → Names catalog.IndexItem → Names catalog.ViewItem → Names (List Piece) → Definitions
by_parts routes tables indexes views alignments = record { routes = routes; tables = tables; indexes = indexes; views = views; alignments = alignments }

with_views : (version : ℕ) (catalogue : CatalogueItems) (listed is : Definitions) → AreDefinitionsAt version (record catalogue { views = [] }) listed → HasViews catalogue.views listed is
    → AreDefinitionsAt version catalogue is
with_views version catalogue listed is are has = record {
  routes = ap (λ (d : Definitions). d.routes) has.others ∙ are.routes;
  tables = ap (λ (d : Definitions). d.tables) has.others ∙ are.tables;
  indexes = ap (λ (d : Definitions). d.indexes) has.others ∙ are.indexes;
  views = has.views;
  alignments = ap (λ (d : Definitions). d.alignments) has.others ∙ are.alignments;
}

-- the definitions that a version sees, by which all routes were born, are those without views with the views
only_views : (version : ℕ) (catalogue : CatalogueItems) (listed is : Definitions) → AreDefinitionsAt version (record catalogue { views = [] }) listed → AreDefinitionsAt version catalogue is
    → HasViews catalogue.views listed is
only_views version catalogue listed is are so = record {
  views = so.views;
  others =
      ap (λ (routes : Names catalog.RouteItem). by_parts routes is.tables is.indexes is.views is.alignments) (so.routes ∙ sym are.routes)
      ∙ ap (λ (tables : Names catalog.TableItem). by_parts listed.routes tables is.indexes is.views is.alignments) (so.tables ∙ sym are.tables)
      ∙ ap (λ (indexes : Names catalog.IndexItem). by_parts listed.routes listed.tables indexes is.views is.alignments) (so.indexes ∙ sym are.indexes)
      ∙ ap (λ (alignments : Names (List Piece)). by_parts listed.routes listed.tables listed.indexes is.views alignments) (so.alignments ∙ sym are.alignments);
}

-- ---- at rest

-- what is said of the listing of definitions
abbrev pub ListItems : Type 0
ListItems = (version : ℕ) (catalogue : CatalogueItems) (definitions : Definitions) → AreMeant catalogue → AllByRecursion (λ route. route.born ≤ version) catalogue.routes
    → AreDefinitionsAt version catalogue definitions → listing_of definitions ≡ catalogue

-- tables of a file that are meant have columns that a table may have
columns_of_each : (catalogue : CatalogueItems) (tables : Names catalog.TableItem) → AreMeant catalogue → tables ≡ tables_named catalogue.tables
    → Each tables (λ name table. AreColumnsOfTable table.columns)
columns_of_each catalogue tables meant are name table there =
    let found = item_of (λ (item : TableItem). item.name) (λ (item : TableItem). (named_table item).1) catalogue.tables name table meant.tables.in_order
    (ap (λ (m : Names catalog.TableItem). names.get m name) (sym are) ∙ there) in
    let is = All-contains IsTable catalogue.tables found.item (All-from_recursion IsTable catalogue.tables meant.tables.each) found.there in
    subst (λ (t : catalog.TableItem). AreColumnsOfTable t.columns) found.is is.columns

-- what was brought of a file that was loaded is at rest with it
pub at_rest : ListedAre → ListItems → (file : OpenedFile) (listed is : Definitions) → IsFile file → MayChange file → IsCommitted file → AreMeant (said_catalogue file.definitions)
    → listed ≡ without_views (said_catalogue file.definitions) → HasViews (said_catalogue file.definitions).views listed is → IsAtRest file is
at_rest listed_are list_items file listed is whole may committed meant made has =
    let said = said_catalogue file.definitions in
    let births : AllByRecursion (λ (route : RouteItem). route.born ≤ file.accepted) said.routes =
    subst (λ (n : ℕ). AllByRecursion (λ (route : RouteItem). route.born ≤ n) said.routes) whole.accepted whole.sound.routes in
    let are : AreDefinitionsAt file.accepted said is = with_views file.accepted said (without_views said) is (listed_are file.accepted said births)
    (subst (λ (d : Definitions). HasViews said.views d is) made has) in
    record {
      may = may;
      committed = committed;
      listing = list_items file.accepted said is meant births are;
      births = births;
      columns = columns_of_each said is.tables meant are.tables;
      bound = omega (arith, whole.sound.limit, whole.accepted);
    }

-- ---- the state

-- what stands beside the definitions in the state of contents
abbrev rest_of : Contents → Rest
rest_of contents = record { changes = contents.directory.accepted; cursors = no_cursors }

module _ (listed_are : ListedAre) (pages : PageMap) (file : OpenedFile) (contents : Contents) (holds : HoldsOpened pages file contents) where
  definitions_meant : AreMeant (said_catalogue file.definitions) → AreMeant contents.definitions
  definitions_meant = subst AreMeant (sym holds.opened.definitions)

  definitions_listed : AreDefinitionsAt contents.directory.accepted (record contents.definitions { views = [] }) (without_views contents.definitions)
  definitions_listed = listed_are contents.directory.accepted contents.definitions holds.holds.routes

  -- what lies in the tree of the referents
  abbrev IsOfReferents : (referents : Numbered HeldReferents) → Type 0
  IsOfReferents referents = (number : ℕ) → referents_on referents number ≡ referents_seen contents contents.directory.accepted number

  pub brings : (listed is : Definitions) (referents : Numbered HeldReferents) → AreMeant (said_catalogue file.definitions) → listed ≡ without_views (said_catalogue file.definitions)
      → HasViews (said_catalogue file.definitions).views listed is → AreMeantIn (referents_on referents) is → IsOfReferents referents → BringsState contents is referents
  brings listed is referents meant made has views are =
      let level = contents.directory.accepted in
      let items = holds.opened.definitions in
      let so : HasViews contents.definitions.views (without_views contents.definitions) is =
      subst (λ (items : CatalogueItems). HasViews items.views (without_views items) is) (sym items)
      (subst (λ (d : Definitions). HasViews (said_catalogue file.definitions).views d is) made has) in
      let defined = with_views level contents.definitions (without_views contents.definitions) is definitions_listed so in
      record {
        memory = record { catalog = defined; referents = are };
        meant = meant_of_records pages contents holds.holds (definitions_meant meant) holds.meant;
        state = state_from is (referents_seen contents level) (spans_seen contents level) (rest_of contents);
        is = record { definitions = is; are = defined; is = refl };
        views = subst (λ (seen : ℕ → Names ℕ). AreViewsMeant (state_from is seen (spans_seen contents level) (rest_of contents))) (fun_ext are)
            (views (spans_seen contents level) (rest_of contents));
      }

  -- ---- what is not meant

  pub not_meant : (AreMeant (said_catalogue file.definitions) → ⊥) → HasNoState contents
  not_meant none = record { none = λ meant state is views. none (subst AreMeant holds.opened.definitions meant.definitions) }

  pub no_referents : (OfThose pages file.referents (λ referents. AreReferentsMeant (route_spans (said_catalogue file.definitions)) file.accepted referents → ⊥)) → HasNoState contents
  no_referents none = record {
    none = λ meant state is views.
        let records = records_of_meant pages contents holds.holds meant in
        none contents.referents.referents contents.referents.used contents.directory.accepted
        (subst (λ (standing : Standing). HoldsRecords kept_referents pages standing contents.directory.accepted contents.referents.referents contents.referents.used)
        holds.opened.referents holds.holds.parts.referents)
        (subst (λ (level : ℕ). AreReferentsMeant (route_spans (said_catalogue file.definitions)) level contents.referents.referents) holds.opened.accepted
        (subst (λ (items : CatalogueItems). AreReferentsMeant (route_spans items) contents.directory.accepted contents.referents.referents) holds.opened.definitions records.on_routes.referents));
  }

  -- the referents that were brought are those of the contents
  pub of_referents : (referents : Numbered HeldReferents)
      → OfThose pages file.referents (λ records. AreReferentsMeant (route_spans (said_catalogue file.definitions)) file.accepted records
      → (number : ℕ) → referents_on referents number ≡ names.from_entries (referents_at file.accepted number records))
      → IsOfReferents referents
  of_referents referents brought number =
      brought contents.referents.referents contents.referents.used contents.directory.accepted
      (subst (λ (standing : Standing). HoldsRecords kept_referents pages standing contents.directory.accepted contents.referents.referents contents.referents.used)
      holds.opened.referents holds.holds.parts.referents)
      (subst (λ (level : ℕ). AreReferentsMeant (route_spans (said_catalogue file.definitions)) level contents.referents.referents) holds.opened.accepted
      (subst (λ (items : CatalogueItems). AreReferentsMeant (route_spans items) contents.directory.accepted contents.referents.referents) holds.opened.definitions holds.meant.on_routes.referents))
      number
      ∙ ap (λ (level : ℕ). names.from_entries (referents_at level number contents.referents.referents)) (sym holds.opened.accepted)

  pub no_views : (listed : Definitions) (referents : Numbered HeldReferents) → listed ≡ without_views (said_catalogue file.definitions) → IsOfReferents referents
      → ((definitions : Definitions) → HasViews (said_catalogue file.definitions).views listed definitions
      → (spans_on : ℕ → ℕ → List Stretch) (rest : Rest) → AreViewsMeant (state_from definitions (referents_on referents) spans_on rest) → ⊥)
      → HasNoState contents
  no_views listed referents made are none = record {
    none = λ meant state is views.
        let level = contents.directory.accepted in
        let so = only_views level contents.definitions (without_views contents.definitions) is.definitions definitions_listed is.are in
        none is.definitions
        (subst (λ (d : Definitions). HasViews (said_catalogue file.definitions).views d is.definitions) (sym made)
        (subst (λ (items : CatalogueItems). HasViews items.views (without_views items) is.definitions) holds.opened.definitions so))
        (spans_seen contents level) (rest_of contents)
        (subst (λ (seen : ℕ → Names ℕ). AreViewsMeant (state_from is.definitions seen (spans_seen contents level) (rest_of contents))) (sym (fun_ext are))
        (subst AreViewsMeant is.is views));
  }

-- ---- routes

spans_each : (routes : List RouteItem) → AllByRecursion (λ route. IsRoute route.name (ends_of route)) routes → AllByRecursion (λ route. route.number < ROUTES) routes
    → AllByRecursion IsSpan (map span_of_route routes)
spans_each [] each below = tt
spans_each (route ∷ routes) each below = (record { numbered = omega (arith, below.0); measured = each.0.end_is_measure }, spans_each routes each.1 below.1)

-- routes that are meant are such as a file may have
pub are_spans : (catalogue : CatalogueItems) → AreMeant catalogue → AllByRecursion IsSpan (route_spans catalogue)
are_spans catalogue meant = spans_each catalogue.routes meant.routes.each meant.routes.numbers_below
