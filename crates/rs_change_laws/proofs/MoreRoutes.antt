-- A route that comes or goes: the state that a file has then.
use Rattle.std.proofs.Common.{◌≡◌, ◌<◌, ◌≤◌, ◌+◌, ◌∙◌, inl, inr, ℕ, false, List, [], Some, None, refl, sym, ap, subst, arith}
use Rattle.std.specs.Prelude.{Contains}
use Rattle.std.specs.FinMap as names
use Rattle.rs_catalog.specs.Changes as changes
use Rattle.rs_catalog.specs.Definitions as catalog
use Rattle.rs_catalog.specs.Definitions.{AreDefinitions, Definitions, IsFree, Numbered, Rest, no_places, state_from}
use Rattle.rs_catalog.specs.Referents.{HeldReferents, at_number, referents_on}
use Rattle.rs_catalog.specs.Uses.{some_piece_on}
use Rattle.rs_catalog_laws.specs.Rest.{one_more}
use Rattle.rs_catalog_pages.specs.Items.{CatalogueItems, RouteItem}
use Rattle.rs_cell_versions.specs.declared.cell.TheConstants.{LIVING}
use Rattle.rs_change_laws.specs.Changing.{GivesState}
use Rattle.rs_change_laws.specs.Parts.{DropsRoute}
use Rattle.rs_change_laws.specs.Standing.{StandsAt}
use Rattle.rs_facts.specs.Fact.{Name, Names}
use Rattle.rs_facts.specs.Runs.{Stretch}
use Rattle.rs_facts.specs.Spans.{places_of}
use Rattle.rs_file_parts.specs.Contents.{Contents}
use Rattle.rs_file_parts.specs.OpenedFile.{OpenedFile}
use Rattle.rs_file_meaning.specs.Changed.{RoutesComeAfter}
use Rattle.rs_file_meaning.specs.Seen.{spans_seen}
use Rattle.rs_file_meaning.specs.States.{routes_named}
use Rattle.rs_file_parts.specs.Calls.{ChangesDefinitions}
use Rattle.rs_machine.specs.Lawful.{IsLawful}
use Rattle.rs_machine.specs.State.{State, has}
use Rattle.rs_machine.specs.Step as machine
use Rattle.rs_pages.specs.PageMap.{PageMap}
use Rattle.rs_stored_catalog.specs.Listing.{listed_route, listing_of}
use Rattle.rs_stored_catalog.specs.Relisting.{HasRouteMore}
use Rattle.rs_change_laws.proofs.DroppedRoutes.{SameLaws, gives_less}
use Rattle.rs_change_laws.proofs.NewDefinitions.{Laws, are_born, are_kept, are_lines, each_inserted, gives_more, listed, no_value, put_others, put_still, rest, routes_kept, state_is}
use Rattle.rs_change_laws.proofs.NewRoutes.{no_facts, no_referents}

abbrev StateHasMore : Type 0
StateHasMore = (definitions : Definitions) (name : Name) (item : catalog.RouteItem) (referents : ℕ → Names ℕ) (spans : ℕ → ℕ → List Stretch) (rest : Rest)
    → names.get definitions.routes name ≡ None → IsFree (λ (route : catalog.RouteItem). route.number) definitions.routes item.number
    → referents item.number ≡ names.empty → ((table : ℕ) → places_of (spans table item.number) ≡ no_places)
    → state_from (changes.with_route definitions name item) referents spans (one_more rest)
    ≡ machine.with_route (state_from definitions referents spans rest) name item.ends.start item.ends.finish

abbrev StateHasLess : Type 0
StateHasLess = (definitions : Definitions) (name : Name) (item : catalog.RouteItem) (referents : ℕ → Names ℕ) (spans : ℕ → ℕ → List Stretch) (rest : Rest)
    → AreDefinitions definitions → names.get definitions.routes name ≡ Some item → ((table : ℕ) → places_of (spans table item.number) ≡ no_places)
    → state_from (changes.without_route definitions name) (at_number item.number names.empty referents) spans (one_more rest)
    ≡ machine.without_route (state_from definitions referents spans rest) name

abbrev ListsMore : Type 0
ListsMore = (definitions : Definitions) (name : Name) (item : catalog.RouteItem) → AreDefinitions definitions → has definitions.routes name ≡ false
    → HasRouteMore (listed_route (name, item)) (listing_of definitions) (listing_of (changes.with_route definitions name item))

abbrev ListsLess : Type 0
ListsLess = (definitions : Definitions) (name : Name) (item : catalog.RouteItem) → names.get definitions.routes name ≡ Some item → some_piece_on definitions name ≡ false
    → HasRouteMore (listed_route (name, item)) (listing_of (changes.without_route definitions name)) (listing_of definitions)

module _ (laws : Laws) (more : StateHasMore) (lists : ListsMore) (from oldest : ℕ) (pages : PageMap) (file : OpenedFile) (definitions : Definitions) (held : Numbered HeldReferents) (state : State)
    (stands : StandsAt from pages file definitions held state) (below : stands.contents.directory.accepted + 1 < LIVING) (name : Name) (item : catalog.RouteItem) (between : Contents)
    (are : AreDefinitions (changes.with_route definitions name item)) (new : has definitions.routes name ≡ false)
    (free : IsFree (λ (route : catalog.RouteItem). route.number) definitions.routes item.number) (born : item.born ≡ stands.contents.directory.accepted + 1)
    (changed : ChangesDefinitions (listing_of (changes.with_route definitions name item)) stands.contents between)
    (lawful : IsLawful (machine.with_route state name item.ends.start item.ends.finish)) where
  abbrev old : Contents
  old = stands.contents

  abbrev accepted : ℕ
  accepted = old.directory.accepted

  abbrev now : Definitions
  now = changes.with_route definitions name item

  abbrev after : State
  after = machine.with_route state name item.ends.start item.ends.finish

  free_there : IsFree (λ (route : catalog.RouteItem). route.number) (routes_named old.definitions.routes) item.number
  free_there = subst (λ routes. IsFree (λ (route : catalog.RouteItem). route.number) routes item.number) (routes_kept laws from pages file definitions held state stands below) free

  is : after ≡ state_from now (referents_on held) (spans_seen old accepted) (one_more (rest laws from pages file definitions held state stands below))
  is =
      let records = stands.meant.records accepted stands.live (omega arith) in
      ap (λ (s : State). machine.with_route s name item.ends.start item.ends.finish) (state_is laws from pages file definitions held state stands below)
      ∙ sym (more definitions name item (referents_on held) (spans_seen old accepted) (rest laws from pages file definitions held state stands below) (no_value definitions.routes name new) free
      (stands.memory.referents item.number ∙ no_referents old accepted item.number stands.meant.definitions records free_there)
      (no_facts old accepted item.number stands.meant.definitions records free_there))

  come : RoutesComeAfter accepted old.definitions.routes (listing_of now).routes
  come =
      let put = (lists definitions name item (are_kept laws from pages file definitions held state stands below) new).routes in
      let same = listed laws from pages file definitions held state stands below in
      record {
        still = λ route there. put_still (listed_route (name, item)) (listing_of definitions).routes (listing_of now).routes put route
            (subst (λ (items : CatalogueItems). Contains items.routes route) (sym same) there);
        others = λ route there. elim (put_others (listed_route (name, item)) (listing_of definitions).routes (listing_of now).routes put route there) [
          | inl one ↦ inr (subst (λ (r : RouteItem). accepted < r.born) one (omega (arith, born)))
          | inr was ↦ inl (subst (λ (items : CatalogueItems). Contains items.routes route) same was)
        ];
      }

  pub route_gives : GivesState oldest old between now held after
  route_gives = gives_more laws from pages file definitions held state stands below now held after refl is are lawful
      (are_lines laws from pages file definitions held state stands below)
      (each_inserted (λ name item. item.born ≤ accepted + 1) definitions.routes name (are_born laws from pages file definitions held state stands below) item (omega (arith, born)))
      oldest between refl come changed

module _ (laws : Laws) (same : SameLaws) (less : StateHasLess) (lists : ListsLess) (from oldest : ℕ) (pages : PageMap) (file : OpenedFile) (definitions : Definitions)
    (held kept : Numbered HeldReferents) (state : State) (stands : StandsAt from pages file definitions held state) (past : oldest ≡ stands.contents.directory.accepted + 1) (upto : oldest < LIVING)
    (name : Name) (item : catalog.RouteItem) (between : Contents) (are : AreDefinitions (changes.without_route definitions name)) (there : names.get definitions.routes name ≡ Some item)
    (no_piece : some_piece_on definitions name ≡ false) (no_spans : (table : ℕ) → spans_seen stands.contents stands.contents.directory.accepted table item.number ≡ [])
    (kept_are : referents_on kept ≡ at_number item.number names.empty (referents_on held))
    (drops : DropsRoute item.number (listing_of (changes.without_route definitions name)) stands.contents between) (lawful : IsLawful (machine.without_route state name)) where
  abbrev fewer : Definitions
  fewer = changes.without_route definitions name

  below : stands.contents.directory.accepted + 1 < LIVING
  below = omega (arith, past, upto)

  is_fewer : machine.without_route state name ≡ state_from fewer (referents_on kept) (spans_seen stands.contents stands.contents.directory.accepted)
      (one_more (rest laws from pages file definitions held state stands below))
  is_fewer =
      ap (λ (s : State). machine.without_route s name) (state_is laws from pages file definitions held state stands below)
      ∙ sym (less definitions name item (referents_on held) (spans_seen stands.contents stands.contents.directory.accepted) (rest laws from pages file definitions held state stands below)
      (are_kept laws from pages file definitions held state stands below) there (λ table. ap places_of (no_spans table)))
      ∙ ap (λ (referents : ℕ → Names ℕ). state_from fewer referents (spans_seen stands.contents stands.contents.directory.accepted) (one_more (rest laws from pages file definitions held state stands below))) (sym kept_are)

  pub route_goes : GivesState oldest stands.contents between fewer kept (machine.without_route state name)
  route_goes = gives_less laws same from oldest pages file definitions held kept state (machine.without_route state name) stands below past name item between are no_spans kept_are drops
      (lists definitions name item there no_piece).routes is_fewer lawful
