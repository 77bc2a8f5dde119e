-- Definitions that come or go beside the same tables: the state that a file has then.
use Rattle.std.proofs.Common.{◌≡◌, ◌<◌, ◌≤◌, ◌+◌, ◌⊎◌, ◌∙◌, inl, inr, ℕ, zero, suc, true, false, cond, is_some, List, [], ◌∷◌, Some, None, map, refl, sym, ap, subst, arith}
use Rattle.std.proofs.Math.Path.{fun_ext}
use Rattle.std.specs.Prelude.{Contains}
use Rattle.std.specs.FinMap as names
use Rattle.std.specs.FinMap.{find, get-entries, get-insert, get-remove}
use Rattle.std.specs.List.{AllByRecursion}
use Rattle.std.specs.Ordering.{eq_by_cmp}
use Rattle.std.proofs.lemmas.Bool.{false≢true}
use Rattle.std.proofs.lemmas.List.Elements.{All-contains, All-from_recursion, Contains-append_cases, Contains-append_left, Contains-append_right}
use Rattle.std.proofs.lemmas.Option.{none-some, same_Some}
use Rattle.rs_catalog.specs.Definitions as catalog
use Rattle.rs_catalog.specs.Definitions.{AreDefinitions, Definitions, Numbered, Rest, state_from}
use Rattle.rs_catalog.specs.Referents.{HeldReferents, referents_on}
use Rattle.rs_catalog.proofs.NameOrder.{name_cmp-total}
use Rattle.rs_catalog_laws.specs.Rest.{one_more}
use Rattle.rs_catalog_meaning.specs.Meaning.{AreMeant}
use Rattle.rs_catalog_pages.specs.Items.{CatalogueItems, RouteItem, TableItem}
use Rattle.rs_cell_versions.specs.declared.cell.TheConstants.{LIVING}
use Rattle.rs_file_parts.specs.Contents.{AreGivenOnce, Contents, HoldsAll, ReferentContents}
use Rattle.rs_file_parts.specs.OpenedFile.{OpenedFile}
use Rattle.rs_stored_catalog.specs.Listing.{listed_table, listing_of}
use Rattle.rs_stored_catalog.specs.Relisting.{AreLawful, IsPutBetween}
use Rattle.rs_table_changes.specs.Turns.{ReferentsTurn}
use Rattle.rs_facts.specs.Fact.{Name, Names, name_cmp}
use Rattle.rs_facts.specs.Runs.{Stretch}
use Rattle.rs_file_parts.specs.Calls.{ChangesDefinitions}
use Rattle.rs_machine.specs.Lawful.{Each, IsLawful}
use Rattle.rs_machine.specs.State.{State, has, no_cursors}
use Rattle.rs_pages.specs.PageMap.{PageMap}
use Rattle.rs_syntax.specs.QueryView.{query_tree}
use Rattle.rs_table_changes.proofs.Turning.{none_turned}
use Rattle.rs_versioned.specs.Events.{spans_at}
use Rattle.rs_file_meaning.specs.Changed.{IsUnusedFrom, RoutesComeAfter}
use Rattle.rs_file_meaning.specs.Live.{KeepsLive}
use Rattle.rs_file_meaning.specs.Meant.{IsMeant}
use Rattle.rs_file_meaning.specs.Seen.{events_with, referents_seen, spans_seen}
use Rattle.rs_file_meaning.specs.States.{AreDefinitionsAt, HasLine, IsStateAt, IsViewOf, named_route, routes_named}
use Rattle.rs_change_laws.specs.Changing.{GivesState, next_of}
use Rattle.rs_change_laws.specs.Standing.{StandsAt}
use Rattle.rs_file_meaning.proofs.Named.{item_of, later_there, same_name}
use Rattle.rs_file_meaning.proofs.Picked.{beside, born_all}
use Rattle.rs_change_laws.proofs.Turned.{turned_beside}

-- ---- lists and maps by name

pub at_each : {X : Type 0} (P : X → Type 0) (xs : List X) (x : X) → AllByRecursion P xs → Contains xs x → P x
at_each P xs x all there = All-contains P xs x (All-from_recursion P xs all) there

pub no_value : {X : Type 0} (m : Names X) (name : Name) → has m name ≡ false → names.get m name ≡ None
no_value m name none = elim (names.get m name) as (λ o. is_some o ≡ false → o ≡ None) [
  | None ↦ λ e. refl
  | Some x ↦ λ e. absurd (false≢true (sym e))
] none

-- what is put between the others is one of them, and so are the others
pub put_still : {X : Type 0} (one : X) (old now : List X) → IsPutBetween one old now → (x : X) → Contains old x → Contains now x
put_still one old now put x there =
    subst (λ l. Contains l x) (sym put.is) (elim (Contains-append_cases put.before put.after x (subst (λ l. Contains l x) put.was there)) [
      | inl early ↦ Contains-append_left put.before (one ∷ put.after) x early
      | inr late ↦ Contains-append_right put.before (one ∷ put.after) x (later_there one x put.after late)
    ])

first_or_later : {X : Type 0} (one : X) (xs : List X) (x : X) → Contains (one ∷ xs) x → (one ≡ x) ⊎ Contains xs x
first_or_later one xs x (zero, inside, is) = inl is
first_or_later one xs x (suc k, inside, is) = inr (k, omega (arith, inside), is)

pub put_others : {X : Type 0} (one : X) (old now : List X) → IsPutBetween one old now → (x : X) → Contains now x → (one ≡ x) ⊎ Contains old x
put_others one old now put x there =
    elim (Contains-append_cases put.before (one ∷ put.after) x (subst (λ l. Contains l x) put.is there)) [
      | inl early ↦ inr (subst (λ l. Contains l x) (sym put.was) (Contains-append_left put.before put.after x early))
      | inr late ↦ elim (first_or_later one put.after x late) [
        | inl is ↦ inl is
        | inr after ↦ inr (subst (λ l. Contains l x) (sym put.was) (Contains-append_right put.before put.after x after))
      ]
    ]

module _ {X : Type 0} (P : Name → X → Type 0) (m : Names X) (name : Name) (each : Each m P) where
  pub each_inserted : (x : X) → P name x → Each (names.insert m name x) P
  each_inserted x is other y there =
      elim (eq_by_cmp name_cmp other name) as (λ b. eq_by_cmp name_cmp other name ≡ b → cond b (Some x) (names.get m other) ≡ Some y → P other y) [
        | true ↦ λ same found. subst (λ n. P n y) (sym (same_name other name same)) (subst (P name) (same_Some x y found) is)
        | false ↦ λ apart found. each other y found
      ] refl (sym (get-insert name_cmp-total m name x other) ∙ there)

  pub each_removed : Each (names.remove m name) P
  each_removed other y there =
      elim (eq_by_cmp name_cmp other name) as (λ b. cond b None (names.get m other) ≡ Some y → P other y) [
        | true ↦ λ found. absurd (none-some y found)
        | false ↦ λ found. each other y found
      ] (sym (get-remove name_cmp-total m name other) ∙ there)

-- an entry that is found is there
found_there : {X : Type 0} (es : List (Name × X)) (name : Name) (x : X) → find name_cmp name es ≡ Some x → Contains es (name, x)
found_there [] name x found = absurd (none-some x found)
found_there (e ∷ es) name x found =
    elim (eq_by_cmp name_cmp name e.0) as (λ b. eq_by_cmp name_cmp name e.0 ≡ b → cond b (Some e.1) (find name_cmp name es) ≡ Some x → Contains (e ∷ es) (name, x)) [
      | true ↦ λ same is. (0, omega arith, λ i. (sym (same_name name e.0 same) i, same_Some e.1 x is i))
      | false ↦ λ other is. later_there e (name, x) es (found_there es name x is)
    ] refl found

-- ---- laws

-- what is said of contents, of their versions and of listings
pub record Laws : Type 0 where
  pub one_state : (version : ℕ) (contents : Contents) (one other : State) → IsStateAt version contents one → IsStateAt version contents other → one ≡ other
  pub next_spans : (pages : PageMap) (contents : Contents) (version : ℕ) → HoldsAll pages contents → contents.directory.accepted ≤ version → version < LIVING → (table route : ℕ)
      → spans_seen contents version table route ≡ spans_seen contents contents.directory.accepted table route
  pub next_referents : (pages : PageMap) (contents : Contents) (version : ℕ) → HoldsAll pages contents → contents.directory.accepted ≤ version → version < LIVING → (route : ℕ)
      → referents_seen contents version route ≡ referents_seen contents contents.directory.accepted route
  pub next_meant : (pages : PageMap) (contents : Contents) (oldest version : ℕ) → HoldsAll pages contents → IsMeant oldest contents → oldest ≤ contents.directory.accepted
      → contents.directory.accepted ≤ version → version < LIVING → IsMeant oldest (record contents { directory = record contents.directory { accepted = version } })
  pub routes_meant : (oldest : ℕ) (contents : Contents) (definitions : CatalogueItems) → IsMeant oldest contents → AreMeant definitions → definitions.tables ≡ contents.definitions.tables
      → ((route : RouteItem) → Contains contents.definitions.routes route → Contains definitions.routes route ⊎ IsUnusedFrom oldest route.number contents)
      → IsMeant oldest (record contents { definitions = definitions })
  pub routes_live : (oldest : ℕ) (contents : Contents) (definitions : CatalogueItems) → AreMeant contents.definitions → AreMeant definitions → definitions.tables ≡ contents.definitions.tables
      → RoutesComeAfter contents.directory.accepted contents.definitions.routes definitions.routes → KeepsLive oldest contents (record contents { definitions = definitions })
  pub listed_meant : (definitions : Definitions) → AreLawful definitions → AreMeant (listing_of definitions)
  pub listed_seen : (version : ℕ) (definitions : Definitions) → AreLawful definitions → Each definitions.routes (λ name item. item.born ≤ version) → AreDefinitionsAt version (listing_of definitions) definitions
  pub listed_back : (version : ℕ) (catalogue : CatalogueItems) (definitions : Definitions) → AreMeant catalogue → AllByRecursion (λ (route : RouteItem). route.born ≤ version) catalogue.routes
      → AreDefinitionsAt version catalogue definitions → listing_of definitions ≡ catalogue
  pub kept : (version : ℕ) (catalogue : CatalogueItems) (definitions : Definitions) → AreMeant catalogue → AreGivenOnce catalogue → AllByRecursion (λ (route : RouteItem). route.born ≤ version) catalogue.routes
      → AreDefinitionsAt version catalogue definitions → AreDefinitions definitions

-- ---- a file that stands for a state

module _ (laws : Laws) (from : ℕ) (pages : PageMap) (file : OpenedFile) (definitions : Definitions) (held : Numbered HeldReferents) (state : State)
    (stands : StandsAt from pages file definitions held state) (below : stands.contents.directory.accepted + 1 < LIVING) where
  abbrev pub old : Contents
  old = stands.contents

  abbrev pub accepted : ℕ
  accepted = old.directory.accepted

  abbrev pub next : ℕ
  next = accepted + 1

  abbrev pub rest : Rest
  rest = record { changes = accepted; cursors = no_cursors }

  pub are_kept : AreDefinitions definitions
  are_kept = laws.kept accepted old.definitions definitions stands.meant.definitions stands.holds.said.numbered.given stands.holds.routes stands.memory.catalog

  pub listed : listing_of definitions ≡ old.definitions
  listed = laws.listed_back accepted old.definitions definitions stands.meant.definitions stands.holds.routes stands.memory.catalog

  pub state_is : state ≡ state_from definitions (referents_on held) (spans_seen old accepted) rest
  state_is = laws.one_state accepted old state (state_from definitions (referents_on held) (spans_seen old accepted) rest) stands.is (record {
    definitions = definitions;
    are = stands.memory.catalog;
    is = ap (λ (referents : ℕ → Names ℕ). state_from definitions referents (spans_seen old accepted) rest) (fun_ext (λ route. stands.memory.referents route));
  })

  pub routes_kept : definitions.routes ≡ routes_named old.definitions.routes
  routes_kept = stands.memory.catalog.routes ∙ ap routes_named (born_all accepted old.definitions.routes stands.holds.routes)

  pub are_born : Each definitions.routes (λ name item. item.born ≤ next)
  are_born name item there =
      let is = item_of (λ (route : RouteItem). route.name) (λ route. (named_route route).1) old.definitions.routes name item stands.meant.definitions.routes.in_order
      (sym (ap (λ (routes : Names catalog.RouteItem). names.get routes name) routes_kept) ∙ there) in
      let early = at_each (λ (route : RouteItem). route.born ≤ accepted) old.definitions.routes is.item stands.holds.routes is.there in
      subst (λ (route : catalog.RouteItem). route.born ≤ next) is.is (omega (arith, early))

  pub are_lines : Each definitions.views (λ name item. HasLine name (query_tree item.query) item.text)
  are_lines name item there =
      let view = beside IsViewOf old.definitions.views (names.entries definitions.views) (name, item) stands.memory.catalog.views
      (found_there (names.entries definitions.views) name item (sym (get-entries definitions.views name) ∙ there)) in
      subst (λ n. HasLine n (query_tree item.query) item.text) (sym view.1.named)
      (subst (λ text. HasLine view.0.name (query_tree item.query) text) (sym view.1.text) view.1.defined)

  -- the next version is meant until something changes
  pub next_is_meant : IsMeant next (next_of old)
  next_is_meant =
      let meant = laws.next_meant pages old from next stands.holds stands.meant stands.live (omega arith) below in
      record { definitions = meant.definitions; records = λ version low high. meant.records version (omega (arith, low, stands.live)) high }

  -- ---- with other definitions

  module _ (now : Definitions) (kept : Numbered HeldReferents) (after : State) (tables : now.tables ≡ definitions.tables)
      (is : after ≡ state_from now (referents_on kept) (spans_seen old accepted) (one_more rest)) (are : AreDefinitions now) (lawful : IsLawful after)
      (lines : Each now.views (λ name item. HasLine name (query_tree item.query) item.text)) (born : Each now.routes (λ name item. item.born ≤ next)) where
    are_lawful : AreLawful now
    are_lawful = record { are = are; referents = referents_on kept; spans = spans_seen old accepted; rest = one_more rest; lawful = subst IsLawful is lawful; lines = lines }

    pub means : AreMeant (listing_of now)
    means = laws.listed_meant now are_lawful

    pub tables_listed : (listing_of now).tables ≡ old.definitions.tables
    tables_listed = ap (λ (tables : Names catalog.TableItem). map listed_table (names.entries tables)) tables ∙ ap (λ (items : CatalogueItems). items.tables) listed

    abbrev pub contents_then : List ℕ → ReferentContents → Contents
    contents_then numbers referents = record old { definitions = listing_of now; pages = numbers; referents = referents }

    spans_then : (numbers : List ℕ) (referents : ReferentContents) → spans_seen old accepted ≡ spans_seen (next_of (contents_then numbers referents)) next
    spans_then numbers referents = fun_ext (λ table. fun_ext (λ route.
        sym (laws.next_spans pages old next stands.holds (omega arith) below table route)
        ∙ ap (λ (items : List TableItem). spans_at next route (events_with items old.tables table)) (sym tables_listed)))

    pub gives : (oldest : ℕ) (numbers : List ℕ) (referents : ReferentContents) → ReferentsTurn next old.referents.referents referents.referents
        → ((route : ℕ) → referents_on kept route ≡ referents_seen (contents_then numbers referents) next route)
        → KeepsLive oldest old (contents_then numbers referents) → IsMeant next (next_of (contents_then numbers referents))
        → GivesState oldest old (contents_then numbers referents) now kept after
    gives oldest numbers referents turned memory live meant = record {
      turned = turned_beside next old (contents_then numbers referents) tables_listed
          (λ number. ap (λ (items : List TableItem). events_with items old.tables number) tables_listed) turned;
      live = live;
      meant = meant;
      memory = record { catalog = laws.listed_seen next now are_lawful born; referents = memory };
      is = record {
        definitions = now;
        are = laws.listed_seen next now are_lawful born;
        is = is
            ∙ ap (λ (referents : ℕ → Names ℕ). state_from now referents (spans_seen old accepted) (one_more rest)) (fun_ext memory)
            ∙ ap (λ (spans : ℕ → ℕ → List Stretch). state_from now (referents_seen (contents_then numbers referents) next) spans (one_more rest)) (spans_then numbers referents);
      };
    }

    -- where routes come at the most, beside the same referents
    pub gives_more : (oldest : ℕ) (between : Contents) → kept ≡ held → RoutesComeAfter accepted old.definitions.routes (listing_of now).routes
        → ChangesDefinitions (listing_of now) old between → GivesState oldest old between now kept after
    gives_more oldest between same come changes =
        subst (λ contents. GivesState oldest old contents now kept after) (sym whole)
        (gives oldest between.pages old.referents (none_turned next old.referents.referents)
        (λ route. ap (λ (referents : Numbered HeldReferents). referents_on referents route) same ∙ stands.memory.referents route
        ∙ sym (laws.next_referents pages old next stands.holds (omega arith) below route))
        (record {
          each = λ version low high. let sees = live.each version low high in record { routes = sees.routes; tables = sees.tables; events = sees.events; referents = sees.referents };
        })
        (record {
          definitions = meant.definitions;
          records = λ version low high. let are = meant.records version low high in record { tables = are.tables; referents = are.referents };
        }))
      where
        whole : between ≡ contents_then between.pages old.referents
        whole = changes.rest ∙ ap (λ items. record old { definitions = items; pages = between.pages }) changes.definitions_are

        live : KeepsLive oldest old (record old { definitions = listing_of now })
        live = laws.routes_live oldest old (listing_of now) stands.meant.definitions means tables_listed come

        meant : IsMeant next (record (next_of old) { definitions = listing_of now })
        meant = laws.routes_meant next (next_of old) (listing_of now) next_is_meant means tables_listed (λ route there. inl (come.still route there))
