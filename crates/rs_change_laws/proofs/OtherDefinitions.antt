-- A view or an alignment that comes or goes: the state that a file has then.
use Rattle.std.proofs.Common.{◌≡◌, ◌<◌, ◌+◌, ◌∙◌, inl, ℕ, false, List, Some, refl, sym, ap, subst}
use Rattle.std.specs.Prelude.{Contains}
use Rattle.std.specs.FinMap as names
use Rattle.rs_catalog.specs.Changes as changes
use Rattle.rs_catalog.specs.Definitions as catalog
use Rattle.rs_catalog.specs.Definitions.{AreDefinitions, Definitions, Numbered, Rest, routes_of, state_from}
use Rattle.rs_catalog.specs.Referents.{HeldReferents, referents_on}
use Rattle.rs_catalog_laws.specs.Rest.{one_more}
use Rattle.rs_catalog_pages.specs.Items.{CatalogueItems}
use Rattle.rs_cell_versions.specs.declared.cell.TheConstants.{LIVING}
use Rattle.rs_facts.specs.Fact.{Name, Names}
use Rattle.rs_facts.specs.Query.{Piece}
use Rattle.rs_facts.specs.Runs.{Stretch}
use Rattle.rs_facts.specs.WellFormed.{ArePiecesOn}
use Rattle.rs_file_parts.specs.Contents.{Contents}
use Rattle.rs_file_parts.specs.OpenedFile.{OpenedFile}
use Rattle.rs_file_meaning.specs.Changed.{RoutesComeAfter}
use Rattle.rs_file_meaning.specs.Seen.{spans_seen}
use Rattle.rs_file_meaning.specs.States.{HasLine}
use Rattle.rs_file_parts.specs.Calls.{ChangesDefinitions}
use Rattle.rs_machine.specs.Lawful.{IsLawful}
use Rattle.rs_machine.specs.State.{State, has}
use Rattle.rs_machine.specs.Step as machine
use Rattle.rs_pages.specs.PageMap.{PageMap}
use Rattle.rs_stored_catalog.specs.Listing.{listing_of}
use Rattle.rs_syntax.specs.QueryView.{query_tree}
use Rattle.rs_change_laws.specs.Changing.{GivesState}
use Rattle.rs_change_laws.specs.Standing.{StandsAt}
use Rattle.rs_change_laws.proofs.NewDefinitions.{Laws, are_born, are_kept, are_lines, each_inserted, each_removed, gives_more, listed, rest, state_is}

abbrev ViewMore : Type 0
ViewMore = (definitions : Definitions) (name : Name) (item : catalog.ViewItem) (referents : ℕ → Names ℕ) (spans : ℕ → ℕ → List Stretch) (rest : Rest)
    → state_from (changes.with_view definitions name item) referents spans (one_more rest)
    ≡ machine.with_view (state_from definitions referents spans rest) name (query_tree item.query)

abbrev ViewLess : Type 0
ViewLess = (definitions : Definitions) (name : Name) (referents : ℕ → Names ℕ) (spans : ℕ → ℕ → List Stretch) (rest : Rest)
    → state_from (changes.without_view definitions name) referents spans (one_more rest)
    ≡ machine.without_view (state_from definitions referents spans rest) name

abbrev AlignmentMore : Type 0
AlignmentMore = (definitions : Definitions) (name : Name) (pieces : List Piece) (referents : ℕ → Names ℕ) (spans : ℕ → ℕ → List Stretch) (rest : Rest)
    → state_from (changes.with_alignment definitions name pieces) referents spans (one_more rest)
    ≡ machine.with_alignment (state_from definitions referents spans rest) name pieces

abbrev AlignmentLess : Type 0
AlignmentLess = (definitions : Definitions) (name : Name) (referents : ℕ → Names ℕ) (spans : ℕ → ℕ → List Stretch) (rest : Rest)
    → state_from (changes.without_alignment definitions name) referents spans (one_more rest)
    ≡ machine.without_alignment (state_from definitions referents spans rest) name

module _ (laws : Laws) where
  module _ (from : ℕ) (pages : PageMap) (file : OpenedFile) (definitions : Definitions) (held : Numbered HeldReferents) (state : State)
      (stands : StandsAt from pages file definitions held state) (below : stands.contents.directory.accepted + 1 < LIVING) where
    are : AreDefinitions definitions
    are = are_kept laws from pages file definitions held state stands below

    -- the same routes
    same_routes : RoutesComeAfter stands.contents.directory.accepted stands.contents.definitions.routes (listing_of definitions).routes
    same_routes =
        let same = listed laws from pages file definitions held state stands below in
        record {
          still = λ route there. subst (λ (items : CatalogueItems). Contains items.routes route) (sym same) there;
          others = λ route there. inl (subst (λ (items : CatalogueItems). Contains items.routes route) same there);
        }

    abbrev spans_now : ℕ → ℕ → List Stretch
    spans_now = spans_seen stands.contents stands.contents.directory.accepted

    abbrev rest_now : Rest
    rest_now = rest laws from pages file definitions held state stands below

    state_was : state ≡ state_from definitions (referents_on held) spans_now rest_now
    state_was = state_is laws from pages file definitions held state stands below

  module _ (more : ViewMore) (from oldest : ℕ) (pages : PageMap) (file : OpenedFile) (definitions : Definitions) (held : Numbered HeldReferents) (state : State)
      (stands : StandsAt from pages file definitions held state) (below : stands.contents.directory.accepted + 1 < LIVING) (name : Name) (item : catalog.ViewItem) (between : Contents)
      (new : has definitions.views name ≡ false) (line : HasLine name (query_tree item.query) item.text)
      (changed : ChangesDefinitions (listing_of (changes.with_view definitions name item)) stands.contents between) (lawful : IsLawful (machine.with_view state name (query_tree item.query))) where
    pub view_gives : GivesState oldest stands.contents between (changes.with_view definitions name item) held (machine.with_view state name (query_tree item.query))
    view_gives =
        let was = are from pages file definitions held state stands below in
        gives_more laws from pages file definitions held state stands below (changes.with_view definitions name item) held (machine.with_view state name (query_tree item.query)) refl
        (ap (λ (s : State). machine.with_view s name (query_tree item.query)) (state_was from pages file definitions held state stands below)
        ∙ sym (more definitions name item (referents_on held) (spans_now from pages file definitions held state stands below) (rest_now from pages file definitions held state stands below)))
        (record {
          route_numbers = was.route_numbers;
          table_numbers = was.table_numbers;
          index_numbers = was.index_numbers;
          routes = was.routes;
          tables = was.tables;
          indexes = was.indexes;
          alignments = was.alignments;
        })
        lawful
        (each_inserted (λ name item. HasLine name (query_tree item.query) item.text) definitions.views name (are_lines laws from pages file definitions held state stands below) item line)
        (are_born laws from pages file definitions held state stands below) oldest between refl (same_routes from pages file definitions held state stands below) changed

  module _ (less : ViewLess) (from oldest : ℕ) (pages : PageMap) (file : OpenedFile) (definitions : Definitions) (held : Numbered HeldReferents) (state : State)
      (stands : StandsAt from pages file definitions held state) (below : stands.contents.directory.accepted + 1 < LIVING) (name : Name) (item : catalog.ViewItem) (between : Contents)
      (there : names.get definitions.views name ≡ Some item)
      (changed : ChangesDefinitions (listing_of (changes.without_view definitions name)) stands.contents between) (lawful : IsLawful (machine.without_view state name)) where
    pub view_goes : GivesState oldest stands.contents between (changes.without_view definitions name) held (machine.without_view state name)
    view_goes =
        let was = are from pages file definitions held state stands below in
        gives_more laws from pages file definitions held state stands below (changes.without_view definitions name) held (machine.without_view state name) refl
        (ap (λ (s : State). machine.without_view s name) (state_was from pages file definitions held state stands below)
        ∙ sym (less definitions name (referents_on held) (spans_now from pages file definitions held state stands below) (rest_now from pages file definitions held state stands below)))
        (record {
          route_numbers = was.route_numbers;
          table_numbers = was.table_numbers;
          index_numbers = was.index_numbers;
          routes = was.routes;
          tables = was.tables;
          indexes = was.indexes;
          alignments = was.alignments;
        })
        lawful
        (each_removed (λ name item. HasLine name (query_tree item.query) item.text) definitions.views name (are_lines laws from pages file definitions held state stands below))
        (are_born laws from pages file definitions held state stands below) oldest between refl (same_routes from pages file definitions held state stands below) changed

  module _ (more : AlignmentMore) (from oldest : ℕ) (pages : PageMap) (file : OpenedFile) (definitions : Definitions) (held : Numbered HeldReferents) (state : State)
      (stands : StandsAt from pages file definitions held state) (below : stands.contents.directory.accepted + 1 < LIVING) (name : Name) (pieces : List Piece) (between : Contents)
      (is : AreDefinitions (changes.with_alignment definitions name pieces)) (new : has definitions.alignments name ≡ false)
      (changed : ChangesDefinitions (listing_of (changes.with_alignment definitions name pieces)) stands.contents between) (lawful : IsLawful (machine.with_alignment state name pieces)) where
    pub alignment_gives : GivesState oldest stands.contents between (changes.with_alignment definitions name pieces) held (machine.with_alignment state name pieces)
    alignment_gives =
        gives_more laws from pages file definitions held state stands below (changes.with_alignment definitions name pieces) held (machine.with_alignment state name pieces) refl
        (ap (λ (s : State). machine.with_alignment s name pieces) (state_was from pages file definitions held state stands below)
        ∙ sym (more definitions name pieces (referents_on held) (spans_now from pages file definitions held state stands below) (rest_now from pages file definitions held state stands below)))
        is lawful (are_lines laws from pages file definitions held state stands below)
        (are_born laws from pages file definitions held state stands below) oldest between refl (same_routes from pages file definitions held state stands below) changed

  module _ (less : AlignmentLess) (from oldest : ℕ) (pages : PageMap) (file : OpenedFile) (definitions : Definitions) (held : Numbered HeldReferents) (state : State)
      (stands : StandsAt from pages file definitions held state) (below : stands.contents.directory.accepted + 1 < LIVING) (name : Name) (pieces : List Piece) (between : Contents)
      (there : names.get definitions.alignments name ≡ Some pieces)
      (changed : ChangesDefinitions (listing_of (changes.without_alignment definitions name)) stands.contents between) (lawful : IsLawful (machine.without_alignment state name)) where
    pub alignment_goes : GivesState oldest stands.contents between (changes.without_alignment definitions name) held (machine.without_alignment state name)
    alignment_goes =
        let was = are from pages file definitions held state stands below in
        gives_more laws from pages file definitions held state stands below (changes.without_alignment definitions name) held (machine.without_alignment state name) refl
        (ap (λ (s : State). machine.without_alignment s name) (state_was from pages file definitions held state stands below)
        ∙ sym (less definitions name (referents_on held) (spans_now from pages file definitions held state stands below) (rest_now from pages file definitions held state stands below)))
        (record {
          route_numbers = was.route_numbers;
          table_numbers = was.table_numbers;
          index_numbers = was.index_numbers;
          routes = was.routes;
          tables = was.tables;
          indexes = was.indexes;
          alignments = each_removed (λ name pieces. ArePiecesOn (routes_of definitions) pieces) definitions.alignments name was.alignments;
        })
        lawful (are_lines laws from pages file definitions held state stands below)
        (are_born laws from pages file definitions held state stands below) oldest between refl (same_routes from pages file definitions held state stands below) changed
