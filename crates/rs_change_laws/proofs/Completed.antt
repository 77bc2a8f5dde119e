-- What contents say after records of them are cleared, and the state that they have.
use Rattle.std.proofs.Common.{◌≡◌, ◌≤◌, ◌+◌, ℕ, List, map, refl, sym, ap, ◌∙◌, subst, arith}
use Rattle.std.proofs.Math.Path.{fun_ext}
use Rattle.rs_catalog.specs.Definitions.{Definitions, Numbered, Rest, state_from}
use Rattle.rs_catalog.specs.Referents.{HeldReferents, referents_on}
use Rattle.rs_catalog_laws.specs.Rest.{SameRows}
use Rattle.rs_catalog_pages.specs.Items.{CatalogueItems}
use Rattle.rs_facts.specs.Fact.{Names}
use Rattle.rs_facts.specs.Runs.{Stretch}
use Rattle.rs_facts.specs.Spans.{places_of}
use Rattle.rs_file_parts.specs.Contents.{Contents, TableContents}
use Rattle.rs_file_parts.specs.OpenedFile.{OpenedFile}
use Rattle.rs_file_parts.specs.Clearing.{ClearsParts, ClearsTable}
use Rattle.rs_change_laws.specs.Changing.{Becomes, Completes, GivesState, next_of}
use Rattle.rs_change_laws.specs.Standing.{AreInMemory, StandsAt}
use Rattle.rs_file_meaning.specs.Changed.{HaveOwnNumbers}
use Rattle.rs_file_meaning.specs.Live.{KeepsEvents, KeepsLive, KeepsRecords, KeepsReferents, SeesTheSame}
use Rattle.rs_file_meaning.specs.Meant.{IsMeant}
use Rattle.rs_file_meaning.specs.Seen.{referents_seen, spans_seen}
use Rattle.rs_file_meaning.specs.States.{AreDefinitionsAt, IsState, IsStateAt}
use Rattle.rs_file_parts.proofs.Lists.{each_weaker}
use Rattle.rs_machine.specs.Lawful.{AreDistinct, AreViewsMeant}
use Rattle.rs_machine.specs.State.{State, no_cursors}
use Rattle.rs_pages.specs.PageMap.{PageMap}
use Rattle.rs_value.specs.declared.column.ColumnType.{ColumnType}
use Rattle.rs_versioned.specs.Events.{Event, kept_events}
use Rattle.rs_versioned.specs.Records.{HasCleared}
use Rattle.rs_versioned.specs.Referents.{ReferentRecord, kept_referents, referents_at}

-- ---- what laws say

abbrev pub HasOneState : Type 0
HasOneState = (version : ℕ) (contents : Contents) (one other : State) → IsStateAt version contents one → IsStateAt version contents other → one ≡ other

abbrev pub RowsMakeStates : Type 0
RowsMakeStates = (definitions : Definitions) (referents : ℕ → Names ℕ) (spans after : ℕ → ℕ → List Stretch) (rest : Rest)
    → SameRows spans after → state_from definitions referents after rest ≡ state_from definitions referents spans rest

abbrev pub EventsAreCleared : Type 0
EventsAreCleared = (oldest accepted : ℕ) (types : List ColumnType) (cells : List (List ℕ)) (old now : List Event)
    → HasCleared (kept_events types) oldest cells old now → KeepsEvents oldest accepted old now

abbrev pub ReferentsAreCleared : Type 0
ReferentsAreCleared = (oldest accepted : ℕ) (cells : List (List ℕ)) (old now : List ReferentRecord)
    → HasCleared kept_referents oldest cells old now → KeepsReferents oldest accepted old now

abbrev pub RecordsKeepLive : Type 0
RecordsKeepLive = (oldest : ℕ) (old now : Contents) → KeepsRecords oldest old now → KeepsLive oldest old now

abbrev pub LiveJoins : Type 0
LiveJoins = (oldest : ℕ) (old next now : Contents) → KeepsLive oldest old next → KeepsLive oldest next now
    → old.directory.accepted ≤ next.directory.accepted → KeepsLive oldest old now

abbrev pub SeenAreNamed : Type 0
SeenAreNamed = (version route : ℕ) (old now : Contents) → SeesTheSame version old now
    → AreDistinct (map (λ one. one.0) (referents_at version route old.referents.referents))
    → referents_seen now version route ≡ referents_seen old version route

abbrev pub SeenHaveRows : Type 0
SeenHaveRows = (version table route : ℕ) (old now : Contents) → SeesTheSame version old now
    → places_of (spans_seen now version table route) ≡ places_of (spans_seen old version table route)

abbrev pub NextIsMeant : Type 0
NextIsMeant = (oldest : ℕ) (old now : Contents) → IsMeant oldest old → KeepsLive oldest old now → IsMeant now.directory.accepted now
    → now.directory.accepted ≤ old.directory.accepted + 1 → HaveOwnNumbers old.definitions.tables → HaveOwnNumbers now.definitions.tables
    → IsMeant oldest now

abbrev pub RecordsStayMeant : Type 0
RecordsStayMeant = (oldest : ℕ) (old now : Contents) → IsMeant oldest old → KeepsRecords oldest old now
    → now.directory.accepted ≡ old.directory.accepted → IsMeant oldest now

-- ---- one state

pub one_in_memory : HasOneState → (oldest : ℕ) (map : PageMap) (file : OpenedFile) (definitions : Definitions) (held : Numbered HeldReferents) (state : State)
    → (stands : StandsAt oldest map file definitions held state)
    → state ≡ state_from definitions (λ (route : ℕ). referents_on held route) (spans_seen stands.contents stands.contents.directory.accepted)
    (record { changes = stands.contents.directory.accepted; cursors = no_cursors })
one_in_memory one oldest map file definitions held state stands =
    let contents = stands.contents in
    let accepted = contents.directory.accepted in
    let rest : Rest = record { changes = accepted; cursors = no_cursors } in
    let made = state_from definitions (λ (route : ℕ). referents_on held route) (spans_seen contents accepted) rest in
    let other : IsStateAt accepted contents made = record {
      definitions = definitions;
      are = stands.memory.catalog;
      is = ap (λ (referents : ℕ → Names ℕ). state_from definitions referents (spans_seen contents accepted) rest) (fun_ext (λ route. stands.memory.referents route));
    } in
    one accepted contents state made stands.is other

-- ---- records are cleared

-- versions from the oldest on see what they saw
pub cleared_keeps : EventsAreCleared → ReferentsAreCleared → (oldest : ℕ) (old now : Contents) → ClearsParts oldest old now → KeepsRecords oldest old now
cleared_keeps events referents oldest old now clears =
    let accepted = old.directory.accepted in
    record {
      definitions = clears.definitions;
      tables = each_weaker (ClearsTable oldest) (λ (was is : TableContents). KeepsEvents oldest accepted was.events is.events)
          (λ was is one. events oldest accepted was.types one.cells was.events is.events one.cleared) old.tables now.tables clears.tables;
      referents = referents oldest accepted clears.referents.cells old.referents.referents now.referents.referents clears.referents.cleared;
    }

-- from a later version on, too
keeps_fewer : (oldest from : ℕ) (old now : Contents) → oldest ≤ from → KeepsRecords oldest old now → KeepsRecords from old now
keeps_fewer oldest from old now later keeps =
    let accepted = old.directory.accepted in
    record {
      definitions = keeps.definitions;
      tables = each_weaker (λ (was is : TableContents). KeepsEvents oldest accepted was.events is.events) (λ (was is : TableContents). KeepsEvents from accepted was.events is.events)
          (λ was is one. record { each = λ version after. one.each version (omega (arith, later, after)) }) old.tables now.tables keeps.tables;
      referents = record { each = λ version after. keeps.referents.each version (omega (arith, later, after)) };
    }

module _ (rows : RowsMakeStates) (named : SeenAreNamed) (facts : SeenHaveRows) (version : ℕ) (old now : Contents) (sees : SeesTheSame version old now)
    (distinct : (route : ℕ) → AreDistinct (map (λ one. one.0) (referents_at version route old.referents.referents)))
    (same : now.definitions ≡ old.definitions) where
  -- a version that sees the same, with the same definitions, has the same state
  pub state_stays : (state : State) → IsStateAt version old state → IsStateAt version now state
  state_stays state is =
      let rest : Rest = record { changes = version; cursors = no_cursors } in
      record {
        definitions = is.definitions;
        are = subst (λ (d : CatalogueItems). AreDefinitionsAt version d is.definitions) (sym same) is.are;
        is = is.is
            ∙ ap (λ (referents : ℕ → Names ℕ). state_from is.definitions referents (spans_seen old version) rest) (fun_ext (λ route. sym (named version route old now sees (distinct route))))
            ∙ sym (rows is.definitions (referents_seen now version) (spans_seen old version) (spans_seen now version) rest (λ table route. facts version table route old now sees));
      }

-- ---- the state of a completed change

-- beside another directory nothing else is seen
live_beside : (oldest : ℕ) (old between : Contents) → KeepsLive oldest old between → KeepsLive oldest old (next_of between)
live_beside oldest old between keeps = record {
  each = λ version after before.
      let sees = keeps.each version after before in
      record { routes = sees.routes; tables = sees.tables; events = sees.events; referents = sees.referents };
}

module _ (events : EventsAreCleared) (referents : ReferentsAreCleared) (live : RecordsKeepLive) (joins : LiveJoins) (rows : RowsMakeStates) (named : SeenAreNamed)
    (facts : SeenHaveRows) (next_meant : NextIsMeant) (records_meant : RecordsStayMeant) where
  pub completed : (from oldest : ℕ) (map new : PageMap) (was is : OpenedFile) (definitions now : Definitions) (held kept : Numbered HeldReferents) (state next : State)
      → (stands : StandsAt from map was definitions held state) → from ≤ oldest → oldest ≤ stands.contents.directory.accepted + 1
      → (between : Contents) → Completes oldest stands.contents between new is → GivesState oldest stands.contents between now kept next
      → AreViewsMeant next → Becomes oldest stands.contents new is now kept next
  completed from oldest pages new was is definitions now held kept state next stands later before between completes gives views =
      let old = stands.contents in
      let contents = completes.contents in
      let begun = next_of between in
      let version = old.directory.accepted + 1 in
      let begins : begun.directory.accepted ≡ version = ap (λ (d : _). d.accepted + 1) completes.same in
      let at : contents.directory.accepted ≡ begun.directory.accepted = completes.next ∙ sym begins in
      let cleared = completes.clears.cleared.parts in
      let parts : ClearsParts oldest (record begun { directory = contents.directory }) contents =
      record { definitions = cleared.definitions; directory = refl; tables = cleared.tables; referents = cleared.referents } in
      let keeps : KeepsRecords oldest begun contents =
      let one = cleared_keeps events referents oldest (record begun { directory = contents.directory }) contents parts in
      subst (λ n. KeepsRecords oldest (record between { directory = record between.directory { accepted = n } }) contents) at
      (record { definitions = one.definitions; tables = one.tables; referents = one.referents }) in
      let after : oldest ≤ begun.directory.accepted = omega (arith, before, begins) in
      let sees = (live oldest begun contents keeps).each begun.directory.accepted after (omega arith) in
      let meant : IsMeant version begun = gives.meant in
      let distinct : (route : ℕ) → AreDistinct (map (λ one. one.0) (referents_at begun.directory.accepted route begun.referents.referents)) =
      (meant.records begun.directory.accepted (omega (arith, begins)) (omega arith)).referents.once in
      let lives = joins oldest old begun contents (live_beside oldest old between gives.live) (live oldest begun contents keeps) (omega (arith, begins)) in
      let state_is : IsState contents next =
      subst (λ n. IsStateAt n contents next) (sym at)
      (state_stays rows named facts begun.directory.accepted begun contents sees distinct keeps.definitions next gives.is) in
      let memory : AreInMemory now kept contents = record {
        catalog = subst (λ n. AreDefinitionsAt n contents.definitions now) (sym at)
            (subst (λ (d : CatalogueItems). AreDefinitionsAt begun.directory.accepted d now) (sym keeps.definitions) gives.memory.catalog);
        referents = λ route. gives.memory.referents route ∙ sym (named begun.directory.accepted route begun contents sees (distinct route))
            ∙ ap (λ n. referents_seen contents n route) (sym at);
      } in
      let is_meant : IsMeant contents.directory.accepted contents =
      subst (λ n. IsMeant n contents) (sym (at ∙ begins))
      (records_meant version begun contents meant (keeps_fewer oldest version begun contents before keeps) at) in
      record {
        between = between;
        turned = gives.turned;
        stands = record {
          contents = contents;
          holds = completes.holds;
          opened = completes.opened;
          memory = memory;
          live = omega (arith, after, at);
          meant = next_meant oldest old contents
              (record { definitions = stands.meant.definitions; records = λ n above. stands.meant.records n (omega (arith, later, above)) }) lives is_meant
              (omega (arith, at, begins)) stands.holds.said.numbered.given.tables_once completes.holds.said.numbered.given.tables_once;
          is = state_is;
          views = views;
        };
        clears = completes.clears;
        next = completes.next;
        live = lives;
      }
