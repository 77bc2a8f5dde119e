-- An index that comes or goes: the state that a file has then.
use Rattle.std.proofs.Common.{◌≡◌, ◌<◌, ◌≤◌, ◌+◌, ◌∙◌, inl, ℕ, List, ◌∷◌, ◌++◌, map, refl, sym, ap, subst}
use Rattle.std.specs.Prelude.{Contains}
use Rattle.std.specs.FinMap as names
use Rattle.std.specs.List.{AllZip}
use Rattle.std.specs.List.Sorted.{IsPermutation}
use Rattle.rs_catalog.specs.Changes as changes
use Rattle.rs_catalog.specs.Definitions as catalog
use Rattle.rs_catalog.specs.Definitions.{AreDefinitions, Definitions, Numbered, indexed_column, state_from}
use Rattle.rs_catalog.specs.Referents.{HeldReferents, referents_on}
use Rattle.rs_catalog.proofs.DefinitionLaws.{are_definitions-without_index}
use Rattle.rs_catalog_laws.specs.Rest.{one_more}
use Rattle.rs_catalog_laws.proofs.Tables.{state_with_index, state_without_index}
use Rattle.rs_catalog_pages.specs.Items.{CatalogueItems, RouteItem}
use Rattle.rs_cell_versions.specs.declared.cell.TheConstants.{LIVING}
use Rattle.rs_facts.specs.Fact.{Name, Names}
use Rattle.rs_file_parts.specs.Contents.{Contents, TableContents}
use Rattle.rs_file_parts.specs.OpenedFile.{OpenedFile}
use Rattle.rs_machine.specs.Lawful.{Each, IsLawful}
use Rattle.rs_machine.specs.State.{State}
use Rattle.rs_machine.specs.Step as machine
use Rattle.rs_pages.specs.PageMap.{PageMap}
use Rattle.rs_stored_catalog.specs.Listing.{listed_route, listing_of}
use Rattle.rs_syntax.specs.QueryView.{query_tree}
use Rattle.rs_table_changes.specs.Turns.{EventsTurn}
use Rattle.rs_versioned.specs.Events.{Event}
use Rattle.rs_change_laws.specs.Changing.{GivesState, next_of}
use Rattle.rs_change_laws.specs.Parts.{ChangesIndexes}
use Rattle.rs_change_laws.specs.Standing.{StandsAt}
use Rattle.rs_file_meaning.specs.Changed.{RoutesComeAfter, SaysTheSame}
use Rattle.rs_file_meaning.specs.Meant.{IsMeant}
use Rattle.rs_file_meaning.specs.Seen.{events_of, events_with, seen_events, spans_seen}
use Rattle.rs_file_meaning.specs.States.{HasLine, IsStateAt}
use Rattle.rs_change_laws.proofs.NewDefinitions.{Laws, are_born, are_kept, are_lines, gives_more, listed, rest, state_is}
use Rattle.rs_change_laws.proofs.TableEvents.{each_same, same_events}

-- what is said of contents that say the same
pub record SaidLaws : Type 0 where
  pub meant : (oldest : ℕ) (one other : Contents) → SaysTheSame one other → IsMeant oldest one → IsMeant oldest other
  pub state : (version : ℕ) (one other : Contents) (state : State) → SaysTheSame one other → IsStateAt version one state → IsStateAt version other state

module _ (laws : Laws) (said : SaidLaws) (from oldest : ℕ) (pages : PageMap) (file : OpenedFile) (definitions : Definitions) (held : Numbered HeldReferents) (state : State)
    (stands : StandsAt from pages file definitions held state) (below : stands.contents.directory.accepted + 1 < LIVING) where
  abbrev old : Contents
  old = stands.contents

  abbrev accepted : ℕ
  accepted = old.directory.accepted

  abbrev next : ℕ
  next = accepted + 1

  -- other definitions of the same routes and tables, beside a table of other indexes
  module _ (now : Definitions) (after : State) (routes : now.routes ≡ definitions.routes) (tables : now.tables ≡ definitions.tables) (views : now.views ≡ definitions.views)
      (is : after ≡ state_from now (referents_on held) (spans_seen old accepted) (one_more (rest laws from pages file definitions held state stands below)))
      (are : AreDefinitions now) (lawful : IsLawful after) (place : ℕ) (between : Contents) (changed : ChangesIndexes place (listing_of now) old between) where
    -- the definitions alone, and then the table as well
    abbrev defined : Contents
    defined = record old { definitions = listing_of now; pages = between.pages }

    abbrev made : Contents
    made = record old { definitions = listing_of now; pages = between.pages; tables = changed.before ++ changed.next ∷ changed.after }

    same_routes : RoutesComeAfter accepted old.definitions.routes (listing_of now).routes
    same_routes =
        let same : (listing_of now).routes ≡ old.definitions.routes
        = ap (λ (routes : Names catalog.RouteItem). map listed_route (names.entries routes)) routes
        ∙ ap (λ (items : CatalogueItems). items.routes) (listed laws from pages file definitions held state stands below) in
        record {
          still = λ route there. subst (λ (items : List RouteItem). Contains items route) (sym same) there;
          others = λ route there. inl (subst (λ (items : List RouteItem). Contains items route) same there);
        }

    given : GivesState oldest old defined now held after
    given = gives_more laws from pages file definitions held state stands below now held after tables is are lawful
        (subst (λ (views : Names catalog.ViewItem). Each views (λ name item. HasLine name (query_tree item.query) item.text)) (sym views)
        (are_lines laws from pages file definitions held state stands below))
        (subst (λ (routes : Names catalog.RouteItem). Each routes (λ name item. item.born ≤ next)) (sym routes) (are_born laws from pages file definitions held state stands below))
        oldest defined refl same_routes (record { definitions_are = refl; rest = refl })

    says : SaysTheSame (next_of defined) (next_of made)
    says = record {
      definitions = refl;
      tables = subst (λ (tables : List TableContents). AllZip (λ table same. table.events ≡ same.events) tables (changed.before ++ changed.next ∷ changed.after)) (sym changed.were)
          (each_same changed.before changed.table changed.next changed.after changed.events);
      referents = refl;
      accepted = refl;
    }

    events_then : (number : ℕ) → events_of defined number ≡ events_of made number
    events_then number =
        ap (λ (tables : List TableContents). events_with (listing_of now).tables tables number) changed.were
        ∙ sym (same_events number (listing_of now).tables changed.before changed.table changed.next changed.after changed.events)

    whole : between ≡ made
    whole =
        changed.rest
        ∙ ap (λ items. record old { definitions = items; pages = between.pages; tables = between.tables }) changed.definitions_are
        ∙ ap (λ (tables : List TableContents). record old { definitions = listing_of now; pages = between.pages; tables = tables }) changed.are

    pub gives_indexes : GivesState oldest old between now held after
    gives_indexes = subst (λ contents. GivesState oldest old contents now held after) (sym whole) (record {
      turned = record {
        tables = given.turned.tables;
        events = λ table there. subst (λ (events : List Event). EventsTurn next (events_of old table.number) events) (events_then table.number) (given.turned.events table there);
        referents = given.turned.referents;
      };
      live = record {
        each = λ version low high. let sees = given.live.each version low high in record {
          routes = sees.routes;
          tables = sees.tables;
          events = λ table. subst (λ (events : List Event). IsPermutation (seen_events version events) (seen_events version (events_of old table))) (events_then table) (sees.events table);
          referents = sees.referents;
        };
      };
      meant = said.meant next (next_of defined) (next_of made) says given.meant;
      memory = record { catalog = given.memory.catalog; referents = given.memory.referents };
      is = said.state next (next_of defined) (next_of made) after says given.is;
    })

  module _ (name : Name) (place : ℕ) (between : Contents) where
    pub index_gives : (item : catalog.IndexItem) → AreDefinitions (changes.with_index definitions name item)
        → ChangesIndexes place (listing_of (changes.with_index definitions name item)) old between → IsLawful (machine.with_index state name (indexed_column item))
        → GivesState oldest old between (changes.with_index definitions name item) held (machine.with_index state name (indexed_column item))
    index_gives item are changed lawful = gives_indexes (changes.with_index definitions name item) (machine.with_index state name (indexed_column item)) refl refl refl
        (ap (λ (s : State). machine.with_index s name (indexed_column item)) (state_is laws from pages file definitions held state stands below)
        ∙ sym (state_with_index definitions name (referents_on held) (spans_seen old accepted) (rest laws from pages file definitions held state stands below) item))
        are lawful place between changed

    pub index_goes : ChangesIndexes place (listing_of (changes.without_index definitions name)) old between → IsLawful (machine.without_index state name)
        → GivesState oldest old between (changes.without_index definitions name) held (machine.without_index state name)
    index_goes changed lawful = gives_indexes (changes.without_index definitions name) (machine.without_index state name) refl refl refl
        (ap (λ (s : State). machine.without_index s name) (state_is laws from pages file definitions held state stands below)
        ∙ sym (state_without_index definitions name (referents_on held) (spans_seen old accepted) (rest laws from pages file definitions held state stands below)))
        (are_definitions-without_index definitions name (are_kept laws from pages file definitions held state stands below)) lawful place between changed
