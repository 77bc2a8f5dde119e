-- The state of a file where the next version sees other referents on one route.
use Rattle.std.proofs.Common.{◌≡◌, ◌<◌, ◌≤◌, ◌+◌, ◌==◌, ◌∙◌, ℕ, true, false, Some, List, [], ◌∷◌, length, map, filter, refl, sym, ap, subst, arith}
use Rattle.std.proofs.Math.Path.{fun_ext}
use Rattle.std.specs.Prelude.{◌≢◌, Contains, if◌then◌else◌}
use Rattle.std.specs.Option.{option_map}
use Rattle.std.specs.FinMap as names
use Rattle.std.specs.FinMap.{get-from_entries}
use Rattle.std.specs.List.{AllByRecursion}
use Rattle.std.proofs.lemmas.Bool.{and_from, and_parts, eqb-true, eqb-false, ne_eqb}
use Rattle.std.proofs.lemmas.Option.{same_Some}
use Rattle.rs_catalog.specs.Definitions as catalog
use Rattle.rs_catalog.specs.Definitions.{AreDefinitions, Definitions, Numbered, Rest, routes_of, state_from}
use Rattle.rs_catalog.specs.Referents.{HeldReferents, at_number, referents_on}
use Rattle.rs_catalog.proofs.NameOrder.{name_cmp-total}
use Rattle.rs_catalog.proofs.Names.{get-map_values}
use Rattle.rs_catalog_laws.specs.Rest.{one_more}
use Rattle.rs_catalog_meaning.specs.Meaning.{AreMeant}
use Rattle.rs_catalog_pages.specs.Items.{CatalogueItems, RouteItem}
use Rattle.rs_cell_versions.specs.declared.cell.TheConstants.{LIVING}
use Rattle.rs_facts.specs.Fact.{Name, Names}
use Rattle.rs_facts.specs.Runs.{Stretch}
use Rattle.rs_file_parts.specs.Contents.{AreGivenOnce, Contents, HoldsAll, ReferentContents}
use Rattle.rs_file_parts.specs.OpenedFile.{OpenedFile}
use Rattle.rs_machine.specs.Lawful as lawful
use Rattle.rs_machine.specs.Lawful.{IsLawful}
use Rattle.rs_machine.specs.State.{State, no_cursors}
use Rattle.rs_machine.specs.Step as machine
use Rattle.rs_machine.specs.Step.{with_referents}
use Rattle.rs_machine.specs.declared.limits.TheConstants.{REFERENTS}
use Rattle.rs_methods.specs.Position.{start_name}
use Rattle.rs_pages.specs.PageMap.{PageMap}
use Rattle.rs_syntax.specs.Sound.{IsName}
use Rattle.rs_table_changes.specs.Turns.{ReferentsTurn}
use Rattle.rs_file_meaning.specs.Live.{KeepsLive, KeepsRecords, KeepsReferents}
use Rattle.rs_file_meaning.specs.Meant.{IsMeant}
use Rattle.rs_file_meaning.specs.Seen.{born_by, referents_seen, routes_at, span_of_route, spans_seen}
use Rattle.rs_file_meaning.specs.States.{AreDefinitionsAt, IsState, named_route, routes_named}
use Rattle.rs_file_meaning.proofs.Named.{HasItem, found_item, item_of, itself}
use Rattle.rs_file_meaning.proofs.Picked.{born_all, each_kept, kept_in, kept_passes, kept_there, shown_there}
use Rattle.rs_versioned.specs.Meant as versioned
use Rattle.rs_versioned.specs.Meant.{AreReferentsMeant, HasRoute, IsReferentMeant}
use Rattle.rs_versioned.specs.Records.{is_seen}
use Rattle.rs_versioned.specs.Referents.{ReferentRecord, is_referent_of, kept_referents, referents_at}
use Rattle.rs_change_laws.specs.Changing.{GivesState, next_of}
use Rattle.rs_change_laws.specs.Standing.{StandsAt}
use Rattle.rs_change_laws.proofs.NamedEntries.{each_contained, len_distinct, under_name}
use Rattle.rs_change_laws.proofs.Turned.{turned_beside}
use Rattle.rs_change_laws.proofs.ReferentLists.{HasUnder, OwnNames, same_number, under}

-- what is said of contents and states
pub record Laws : Type 0 where
  pub fewer : (oldest from : ℕ) (contents : Contents) → oldest ≤ from → IsMeant oldest contents → IsMeant from contents
  pub meant_next : (pages : PageMap) (contents : Contents) (oldest version : ℕ) → HoldsAll pages contents → IsMeant oldest contents
      → oldest ≤ contents.directory.accepted → contents.directory.accepted ≤ version → version < LIVING
      → IsMeant oldest (record contents { directory = record contents.directory { accepted = version } })
  pub meant_others : (oldest : ℕ) (contents : Contents) (now : ReferentContents) → IsMeant oldest contents
      → ((version : ℕ) → oldest ≤ version → version ≤ contents.directory.accepted → AreReferentsMeant (routes_at version contents.definitions.routes) version now.referents)
      → IsMeant oldest (record contents { referents = now })
  pub spans_next : (pages : PageMap) (contents : Contents) (version : ℕ) → HoldsAll pages contents → contents.directory.accepted ≤ version → version < LIVING
      → (table route : ℕ) → spans_seen contents version table route ≡ spans_seen contents contents.directory.accepted table route
  pub referents_next : (pages : PageMap) (contents : Contents) (version : ℕ) → HoldsAll pages contents → contents.directory.accepted ≤ version → version < LIVING
      → (route : ℕ) → referents_seen contents version route ≡ referents_seen contents contents.directory.accepted route
  pub live_records : (oldest : ℕ) (old now : Contents) → KeepsRecords oldest old now → KeepsLive oldest old now
  pub live_referents : (oldest : ℕ) (contents : Contents) (now : ReferentContents)
      → KeepsReferents oldest contents.directory.accepted contents.referents.referents now.referents → KeepsRecords oldest contents (record contents { referents = now })
  pub catalogue : (version : ℕ) (catalogue : CatalogueItems) (definitions : Definitions) → AreMeant catalogue → AreGivenOnce catalogue
      → AllByRecursion (λ route. route.born ≤ version) catalogue.routes → AreDefinitionsAt version catalogue definitions → AreDefinitions definitions
  pub others : (definitions : Definitions) (name : Name) (item : catalog.RouteItem) (after : Names ℕ) (referents : ℕ → Names ℕ) (spans : ℕ → ℕ → List Stretch) (rest : Rest)
      → AreDefinitions definitions → names.get definitions.routes name ≡ Some item
      → state_from definitions (at_number item.number after referents) spans (one_more rest) ≡ with_referents (state_from definitions referents spans rest) name after
  pub there : (definitions : Definitions) (name : Name) (item : catalog.RouteItem) (referents : ℕ → Names ℕ) (spans : ℕ → ℕ → List Stretch) (rest : Rest)
      → names.get definitions.routes name ≡ Some item → (state_from definitions referents spans rest).referents name ≡ referents item.number

-- ---- small parts

born_later : (from to : ℕ) → from ≤ to → (routes : List RouteItem) → AllByRecursion (λ (route : RouteItem). route.born ≤ from) routes → AllByRecursion (λ (route : RouteItem). route.born ≤ to) routes
born_later from to later [] all = tt
born_later from to later (r ∷ routes) all = (omega (arith, all.0, later), born_later from to later routes all.1)

numbered_here : (number : ℕ) (after : Names ℕ) (old : ℕ → Names ℕ) → at_number number after old number ≡ after
unfolding at_number
numbered_here number after old = ap (λ b. if b then after else old number) (same_number number)

numbered_apart : (number : ℕ) (after : Names ℕ) (old : ℕ → Names ℕ) (n : ℕ) → (n ≡ number → ⊥) → at_number number after old n ≡ old n
unfolding at_number
numbered_apart number after old n apart = ap (λ b. if b then after else old n) (ne_eqb n number apart)

named_here : (route : Name) (after : Names ℕ) (old : Name → Names ℕ) → machine.referents_at route after old route ≡ after
unfolding machine.referents_at
named_here route after old = ap (λ b. if b then after else old route) (itself route)

module _ (laws : Laws) (from oldest : ℕ) (pages : PageMap) (file : OpenedFile) (definitions : Definitions) (held : Numbered HeldReferents) (state : State)
    (stands : StandsAt from pages file definitions held state) (later : from ≤ oldest) (below : stands.contents.directory.accepted + 1 < LIVING)
    (route : Name) (on : catalog.RouteItem) (there : names.get definitions.routes route ≡ Some on) where
  abbrev contents : Contents
  contents = stands.contents

  abbrev accepted : ℕ
  accepted = contents.directory.accepted

  abbrev pub next : ℕ
  next = accepted + 1

  abbrev routes : List RouteItem
  routes = contents.definitions.routes

  abbrev pub referents : List ReferentRecord
  referents = contents.referents.referents

  abbrev catalogue : Definitions
  catalogue = stands.is.definitions

  abbrev rest : Rest
  rest = record { changes = accepted; cursors = no_cursors }

  -- ---- how it begins

  begins_under : (number : ℕ) → under next number referents ≡ referents_seen contents accepted number
  begins_under = laws.referents_next pages contents next stands.holds (omega arith) below

  begins_meant : IsMeant next (next_of contents)
  begins_meant = laws.fewer from next (next_of contents) (omega (arith, stands.live)) (laws.meant_next pages contents from next stands.holds stands.meant stands.live (omega arith) below)

  were_meant : AreReferentsMeant (routes_at next routes) next referents
  were_meant = (begins_meant.records next (omega arith) (omega arith)).referents

  pub own_names : OwnNames next referents
  own_names = were_meant.once

  there_named : names.get catalogue.routes route ≡ Some on
  there_named = ap (λ (r : Names catalog.RouteItem). names.get r route) (stands.is.are.routes ∙ sym stands.memory.catalog.routes) ∙ there

  pub state_under : state.referents route ≡ under next on.number referents
  state_under =
      ap (λ (s : State). s.referents route) stands.is.is
      ∙ laws.there catalogue route on (referents_seen contents accepted) (spans_seen contents accepted) rest there_named
      ∙ sym (begins_under on.number)

  pub held_under : referents_on held on.number ≡ state.referents route
  held_under = stands.memory.referents on.number ∙ sym (begins_under on.number) ∙ sym state_under

  -- ---- the route

  born : born_by accepted routes ≡ routes
  born = born_all accepted routes stands.holds.routes

  born_next : born_by next routes ≡ routes
  born_next = born_all next routes (born_later accepted next (omega arith) routes stands.holds.routes)

  item : HasItem (λ (r : RouteItem). r.name) (λ r. (named_route r).1) routes route on
  item =
      item_of (λ (r : RouteItem). r.name) (λ r. (named_route r).1) routes route on stands.meant.definitions.routes.in_order
      (ap (λ (r : Names catalog.RouteItem). names.get r route) (sym (stands.memory.catalog.routes ∙ ap routes_named born)) ∙ there)

  state_routes : names.get state.routes route ≡ Some on.ends
  state_routes =
      ap (λ (s : State). names.get s.routes route) stands.is.is
      ∙ get-map_values (λ (item : catalog.RouteItem). item.ends) catalogue.routes route
      ∙ ap (option_map (λ (item : catalog.RouteItem). item.ends)) there_named

  -- a place of the route in the state is one in the file
  lies_on : (measure : ℕ) → lawful.OnRoute state.routes route (lawful.IsPlaceOf measure) → HasRoute (routes_at next routes) on.number (versioned.IsPlaceOf measure)
  lies_on measure lies =
      let same : lies.ends ≡ on.ends = same_Some lies.ends on.ends (sym lies.there ∙ state_routes) in
      record {
        route = span_of_route item.item;
        there = subst (λ (rs : List RouteItem). Contains (map span_of_route rs) (span_of_route item.item)) (sym born_next) (shown_there span_of_route routes item.item item.there);
        numbered = ap (λ (r : catalog.RouteItem). r.number) item.is;
        is_so = subst (lawful.IsPlaceOf measure) (same ∙ sym (ap (λ (r : catalog.RouteItem). r.ends) item.is)) lies.is_so;
      }

  -- ---- how it ends

  module _ (now : ReferentContents) (after : Names ℕ) (kept : Numbered HeldReferents) (has : HasUnder next on.number after referents now.referents)
      (keeps : KeepsReferents oldest accepted referents now.referents) (holds : referents_on kept ≡ at_number on.number after (referents_on held))
      (is_lawful : IsLawful (with_referents state route after)) where
    abbrev between : Contents
    between = record contents { referents = now }

    is_after : (with_referents state route after).referents route ≡ after
    is_after = named_here route after state.referents

    ends_under : (number : ℕ) → at_number on.number after (referents_seen contents accepted) number ≡ under next number now.referents
    ends_under number = elim (number == on.number) as (λ b. (number == on.number) ≡ b → at_number on.number after (referents_seen contents accepted) number ≡ under next number now.referents) [
      | true ↦ λ same. subst (λ (n : ℕ). at_number on.number after (referents_seen contents accepted) n ≡ under next n now.referents) (sym (eqb-true number on.number same))
          (numbered_here on.number after (referents_seen contents accepted) ∙ sym has.on)
      | false ↦ λ other.
          let apart : number ≡ on.number → ⊥ = eqb-false number on.number other in
          numbered_apart on.number after (referents_seen contents accepted) number apart ∙ sym (begins_under number) ∙ sym (has.others number apart)
    ] refl

    -- each referent that the next version sees is meant
    one_meant : (one : ReferentRecord) → Contains (filter (is_seen kept_referents next) now.referents) one → IsReferentMeant (routes_at next routes) one
    one_meant one there =
        let seen = kept_passes (is_seen kept_referents next) now.referents one there in
        let on_route : is_referent_of next one.route one ≡ true = and_from (one.route == one.route) (is_seen kept_referents next one) (same_number one.route) seen in
        let inside = kept_in (is_referent_of next one.route) now.referents one (kept_there (is_seen kept_referents next) now.referents one there) on_route in
        let found : names.get (under next one.route now.referents) one.name ≡ Some one.measure =
        under_name (referents_at next one.route now.referents) (one.name, one.measure) (has.own one.route)
        (shown_there (λ (r : ReferentRecord). (r.name, r.measure)) (filter (is_referent_of next one.route) now.referents) one inside) in
        elim (one.route == on.number) as (λ b. (one.route == on.number) ≡ b → IsReferentMeant (routes_at next routes) one) [
          | true ↦ λ same. meant_here one (eqb-true one.route on.number same) found
          | false ↦ λ other. meant_apart one (eqb-false one.route on.number other) found
        ] refl
      where
        meant_here : (one : ReferentRecord) → one.route ≡ on.number → names.get (under next one.route now.referents) one.name ≡ Some one.measure → IsReferentMeant (routes_at next routes) one
        meant_here one same found =
            let get : names.get ((with_referents state route after).referents route) one.name ≡ Some one.measure =
            ap (λ (m : Names ℕ). names.get m one.name) (is_after ∙ sym has.on ∙ ap (λ (n : ℕ). under next n now.referents) (sym same)) ∙ found in
            let is = is_lawful.referents route one.name one.measure get in
            record {
              named = is_lawful.referents_named.each route one.name one.measure get;
              not_start = is.not_start;
              lies = subst (λ (n : ℕ). HasRoute (routes_at next routes) n (versioned.IsPlaceOf one.measure)) (sym same) (lies_on one.measure is.lies);
            }

        meant_apart : (one : ReferentRecord) → (one.route ≡ on.number → ⊥) → names.get (under next one.route now.referents) one.name ≡ Some one.measure → IsReferentMeant (routes_at next routes) one
        meant_apart one apart found =
            let item = found_item (λ (r : ReferentRecord). r.name) (λ r. r.measure) (filter (is_referent_of next one.route) referents) one.name one.measure
            (sym (get-from_entries name_cmp-total (referents_at next one.route referents) one.name) ∙ ap (λ (m : Names ℕ). names.get m one.name) (sym (has.others one.route apart)) ∙ found) in
            let parts = and_parts (item.item.route == one.route) (is_seen kept_referents next item.item) (kept_passes (is_referent_of next one.route) referents item.item item.there) in
            let is = each_kept (is_seen kept_referents next) (IsReferentMeant (routes_at next routes)) referents item.item were_meant.each (kept_there (is_referent_of next one.route) referents item.item item.there) parts.1 in
            record {
              named = subst IsName item.named is.named;
              not_start = subst (λ (n : Name). n ≢ start_name) item.named is.not_start;
              lies = subst (λ (n : ℕ). HasRoute (routes_at next routes) n (versioned.IsPlaceOf one.measure)) (eqb-true item.item.route one.route parts.0)
                  (subst (λ (m : ℕ). HasRoute (routes_at next routes) item.item.route (versioned.IsPlaceOf m)) item.is is.lies);
            }

    few : (number : ℕ) → length (referents_at next number now.referents) ≤ REFERENTS
    few number = elim (number == on.number) as (λ b. (number == on.number) ≡ b → length (referents_at next number now.referents) ≤ REFERENTS) [
      | true ↦ λ same.
          subst (λ (n : ℕ). length (referents_at next n now.referents) ≤ REFERENTS) (sym (eqb-true number on.number same))
          (omega (arith, len_distinct (referents_at next on.number now.referents) (has.own on.number), ap names.len has.on, ap names.len is_after, is_lawful.limits.referents route))
      | false ↦ λ other.
          omega (
            arith,
            len_distinct (referents_at next number now.referents) (has.own number),
            ap names.len (has.others number (eqb-false number on.number other)),
            len_distinct (referents_at next number referents) (were_meant.once number),
            were_meant.few number,
          )
    ] refl

    are_meant : AreReferentsMeant (routes_at next routes) next now.referents
    are_meant = record { each = each_contained (IsReferentMeant (routes_at next routes)) (filter (is_seen kept_referents next) now.referents) one_meant; once = has.own; few = few }

    definitions_at : (definitions : Definitions) → AreDefinitionsAt accepted contents.definitions definitions → AreDefinitionsAt next contents.definitions definitions
    definitions_at definitions are = record {
      routes = are.routes ∙ ap routes_named (born ∙ sym born_next);
      tables = are.tables;
      indexes = are.indexes;
      views = are.views;
      alignments = are.alignments;
    }

    state_is : IsState (next_of between) (with_referents state route after)
    state_is = record {
      definitions = catalogue;
      are = definitions_at catalogue stands.is.are;
      is = ap (λ (s : State). with_referents s route after) stands.is.is
          ∙ sym (laws.others catalogue route on after (referents_seen contents accepted) (spans_seen contents accepted) rest
          (laws.catalogue accepted contents.definitions catalogue stands.meant.definitions stands.holds.said.numbered.given stands.holds.routes stands.is.are) there_named)
          ∙ ap (λ (seen : ℕ → Names ℕ). state_from catalogue seen (spans_seen contents accepted) (one_more rest)) (fun_ext ends_under)
          ∙ ap (λ (spans : ℕ → ℕ → List Stretch). state_from catalogue (λ (number : ℕ). under next number now.referents) spans (one_more rest))
          (fun_ext (λ table. fun_ext (λ number. sym (laws.spans_next pages contents next stands.holds (omega arith) below table number))));
    }

    pub gives : ReferentsTurn next referents now.referents → GivesState oldest contents between definitions kept (with_referents state route after)
    gives turned = record {
      turned = turned_beside next contents between refl (λ number. refl) turned;
      live = laws.live_records oldest contents between (laws.live_referents oldest contents now keeps);
      meant = laws.meant_others next (next_of contents) now begins_meant
          (λ version low high. subst (λ (v : ℕ). AreReferentsMeant (routes_at v routes) v now.referents) (omega (arith, low, high)) are_meant);
      memory = record {
        catalog = definitions_at definitions stands.memory.catalog;
        referents = λ number.
            ap (λ (f : ℕ → Names ℕ). f number) (holds ∙ ap (λ (f : ℕ → Names ℕ). at_number on.number after f) (fun_ext stands.memory.referents)) ∙ ends_under number;
      };
      is = state_is;
    }
