-- A route that goes from a store: the state that it gives, and that a file can keep the definitions then.
use Rattle.std.proofs.Common.{◌≡◌, ◌<◌, ◌+◌, ◌^◌, ◌∙◌, ℕ, List, [], Some, ap, false, length, refl, subst, sym, arith}
use Rattle.std.specs.FinMap as names
use Rattle.std.specs.List.{AllByRecursion}
use Rattle.std.proofs.Math.Path.{fun_ext}
use Rattle.std.proofs.lemmas.List.Elements.{All-from_recursion}
use Rattle.rs_catalog.specs.Changes as changes
use Rattle.rs_catalog.specs.Definitions.{AreDefinitions, Definitions, Numbered, Rest, RouteItem, no_places, state_from}
use Rattle.rs_catalog.specs.Referents.{HeldReferents, at_number, referents_on}
use Rattle.rs_catalog.specs.Uses.{some_piece_on}
use Rattle.rs_catalog.proofs.DefinitionLaws.{are_definitions-without_route}
use Rattle.rs_catalog_laws.specs.Rest.{one_more}
use Rattle.rs_catalog_meaning.specs.Meaning.{AreMeant}
use Rattle.rs_catalog_pages.specs.Items.{CatalogueItems, ViewItem}
use Rattle.rs_catalog_pages.specs.Said.{said_catalogue}
use Rattle.rs_cell_versions.specs.declared.cell.TheConstants.{LIVING}
use Rattle.rs_disk.specs.declared.disk.Disk as disk
use Rattle.rs_facts.specs.Fact.{Name, Names}
use Rattle.rs_facts.specs.Runs.{Stretch}
use Rattle.rs_facts.specs.Spans.{places_of}
use Rattle.rs_file.specs.Contents.{Contents}
use Rattle.rs_file.specs.declared.opened.OpenedFile.{OpenedFile}
use Rattle.rs_file_meaning.specs.Seen.{spans_seen}
use Rattle.rs_file_meaning.specs.States.{HasLine, IsViewOf}
use Rattle.rs_machine.specs.Lawful.{Each, IsLawful}
use Rattle.rs_machine.specs.State.{State, no_cursors}
use Rattle.rs_machine.specs.Step as machine
use Rattle.rs_machine.specs.declared.limits.TheConstants.{CHANGES}
use Rattle.rs_pager.specs.Maps.{committed}
use Rattle.rs_pages.specs.PageMap.{PageMap}
use Rattle.rs_stored_catalog.specs.Listing.{listing_of}
use Rattle.rs_stored_catalog.specs.Relisting.{AreLawful}
use Rattle.rs_changes.specs.Changing.{GivesState}
use Rattle.rs_changes.specs.Parts.{DropsRoute}
use Rattle.rs_changes.specs.Standing.{StandsAt}
use Rattle.rs_file_meaning.proofs.Picked.{beside}
use Rattle.rs_store.specs.Kept.{StandsIn, StoreState}
use Rattle.rs_store.specs.Rewriting.{CanBeKept}
use Rattle.rs_store.specs.Routing.{HasNoFactOn}
use Rattle.rs_store.proofs.Placed.{entry_there}
use Rattle.rs_store.proofs.Redefined.{IsLineReadable, next_lives, stands_still, texts_short}
use Rattle.rs_store.proofs.RouteFacts.{StateIs, no_spans}
use Rattle.rs_syntax.specs.QueryView.{query_tree}

-- ---- laws

abbrev pub DroppedGives : Type 0
DroppedGives = (from oldest : ℕ) (map : PageMap) (file : OpenedFile) (definitions : Definitions) (held kept : Numbered HeldReferents) (state : State)
    → (stands : StandsAt from map file definitions held state) → oldest ≡ stands.contents.directory.accepted + 1 → oldest < LIVING
    → (name : Name) (item : RouteItem) (between : Contents) → AreDefinitions (changes.without_route definitions name)
    → names.get definitions.routes name ≡ Some item → some_piece_on definitions name ≡ false
    → ((table : ℕ) → spans_seen stands.contents stands.contents.directory.accepted table item.number ≡ [])
    → referents_on kept ≡ at_number item.number names.empty (referents_on held)
    → DropsRoute item.number (listing_of (changes.without_route definitions name)) stands.contents between
    → IsLawful (machine.without_route state name)
    → GivesState oldest stands.contents between (changes.without_route definitions name) kept (machine.without_route state name)

abbrev pub StateLess : Type 0
StateLess = (definitions : Definitions) (name : Name) (item : RouteItem) (referents : ℕ → Names ℕ) (spans : ℕ → ℕ → List Stretch) (rest : Rest)
    → AreDefinitions definitions → names.get definitions.routes name ≡ Some item → ((table : ℕ) → places_of (spans table item.number) ≡ no_places)
    → state_from (changes.without_route definitions name) (at_number item.number names.empty referents) spans (one_more rest)
    ≡ machine.without_route (state_from definitions referents spans rest) name

abbrev pub LawfulIsMeant : Type 0
LawfulIsMeant = (definitions : Definitions) → AreLawful definitions → AreMeant (listing_of definitions)

no_spans_nowhere : places_of [] ≡ no_places
no_spans_nowhere = fun_ext (λ k. refl)

module _ {D : Type 0} (d : disk.Ghosts D) (was : StoreState D) (room : was.file.accepted < CHANGES) (state_is : StateIs d)
    (name : Name) (item : RouteItem) (are : AreDefinitions was.catalog) (there : names.get was.catalog.routes name ≡ Some item) (unused : some_piece_on was.catalog name ≡ false) where
  abbrev next : Definitions
  next = changes.without_route was.catalog name

  abbrev pub may : State → Type 0
  may state = HasNoFactOn name state × IsLawful (machine.without_route state name)

  none_seen : (from : ℕ) (state : State) (stands : StandsIn d from was state) → may state → (table : ℕ) → spans_seen stands.contents stands.contents.directory.accepted table item.number ≡ []
  none_seen from state stands allowed =
      no_spans d state_is from was state stands name item there allowed.0

  pub less_gives : DroppedGives → (kept : Numbered HeldReferents) → referents_on kept ≡ at_number item.number names.empty (referents_on was.referents)
      → (from oldest : ℕ) (state : State) (stands : StandsIn d from was state) → oldest ≡ was.file.accepted + 1 → may state → (part : Contents)
      → DropsRoute item.number (listing_of next) stands.contents part → GivesState oldest stands.contents part next kept (machine.without_route state name)
  less_gives law kept ended from oldest state stands past allowed part drops =
      let level : stands.contents.directory.accepted ≡ was.file.accepted = stands.keeps.opened.accepted in
      let lives : stands.contents.directory.accepted + 1 < LIVING = next_lives d was from state stands room in
      law from oldest (committed d was.pager) was.file was.catalog was.referents kept state (stands_still d was from state stands)
      (omega (arith, past, level)) (omega (arith, past, level, lives)) name item part (are_definitions-without_route was.catalog name are unused) there unused
      (none_seen from state stands allowed) ended drops allowed.1

  module _ (less : StateLess) (lawful_meant : LawfulIsMeant) (listing : listing_of was.catalog ≡ said_catalogue was.file.definitions) (from : ℕ) (state : State) (stands : StandsIn d from was state) where
    abbrev at : StandsAt from (committed d was.pager) was.file was.catalog was.referents state
    at = stands_still d was from state stands

    lines : Each was.catalog.views (λ name item. HasLine name (query_tree item.query) item.text)
    lines name item one =
        let view = beside IsViewOf stands.contents.definitions.views (names.entries was.catalog.views) (name, item) at.memory.catalog.views (entry_there was.catalog.views name item one) in
        subst (λ n. HasLine n (query_tree item.query) item.text) (sym view.1.named)
        (subst (λ text. HasLine view.0.name (query_tree item.query) text) (sym view.1.text) view.1.defined)

    lawful_next : may state → AreLawful next
    lawful_next allowed =
        let accepted = was.file.accepted in
        let level : stands.contents.directory.accepted ≡ accepted = stands.keeps.opened.accepted in
        let spans = spans_seen stands.contents accepted in
        let rest : Rest = record { changes = accepted; cursors = no_cursors } in
        let was_state : state ≡ state_from was.catalog (λ (route : ℕ). referents_on was.referents route) spans rest =
        state_is from was state stands in
        record {
          are = are_definitions-without_route was.catalog name are unused;
          referents = at_number item.number names.empty (λ (route : ℕ). referents_on was.referents route);
          spans = spans;
          rest = one_more rest;
          lawful = subst IsLawful
              (ap (λ (s : State). machine.without_route s name) was_state
              ∙ sym (less was.catalog name item (λ (route : ℕ). referents_on was.referents route) spans rest are there
              (λ table. ap (λ (v : ℕ). places_of (spans_seen stands.contents v table item.number)) (sym level) ∙ ap places_of (none_seen from state stands allowed table) ∙ no_spans_nowhere)))
              allowed.1;
          lines = lines;
        }

    -- a file can keep them where the state without the route is lawful
    pub less_kept : IsLineReadable → may state → CanBeKept (listing_of next)
    less_kept readable allowed = record {
      meant = lawful_meant next (lawful_next allowed);
      texts = All-from_recursion (λ (view : ViewItem). length view.text < 2 ^ 16) (listing_of next).views
          (subst (λ (items : CatalogueItems). AllByRecursion (λ view. length view.text < 2 ^ 16) items.views) (at.opened.definitions ∙ sym listing)
          (texts_short readable stands.contents.definitions.views (names.entries was.catalog.views) at.memory.catalog.views));
    }
