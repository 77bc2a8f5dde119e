-- The state that contents have after records of them are cleared at the same version.
use Rattle.std.proofs.Common.{◌≡◌, ◌≤◌, ℕ, map, sym, ap, ◌∙◌, subst, arith}
use Rattle.rs_catalog.specs.Definitions.{Definitions, Numbered}
use Rattle.rs_catalog.specs.Referents.{HeldReferents}
use Rattle.rs_catalog_pages.specs.Items.{CatalogueItems}
use Rattle.rs_change_laws.specs.Clearing.{HoldsFewer, StandsFewer}
use Rattle.rs_change_laws.specs.Standing.{AreInMemory, StandsAt}
use Rattle.rs_file_parts.specs.OpenedFile.{OpenedFile}
use Rattle.rs_file_meaning.specs.Live.{KeepsRecords}
use Rattle.rs_file_meaning.specs.Meant.{IsMeant}
use Rattle.rs_file_meaning.specs.Seen.{referents_seen}
use Rattle.rs_file_meaning.specs.States.{AreDefinitionsAt, IsState, IsStateAt}
use Rattle.rs_machine.specs.Lawful.{AreDistinct}
use Rattle.rs_machine.specs.State.{State}
use Rattle.rs_pages.specs.PageMap.{PageMap}
use Rattle.rs_change_laws.proofs.Completed.{EventsAreCleared, RecordsKeepLive, RecordsStayMeant, ReferentsAreCleared, RowsMakeStates, SeenAreNamed, SeenHaveRows, cleared_keeps, state_stays}
use Rattle.rs_versioned.specs.Referents.{referents_at}

module _ (events : EventsAreCleared) (referents : ReferentsAreCleared) (live : RecordsKeepLive) (rows : RowsMakeStates) (named : SeenAreNamed) (facts : SeenHaveRows)
    (records_meant : RecordsStayMeant) where
  pub stands_fewer : (from oldest most gone : ℕ) (map new : PageMap) (was is : OpenedFile) (definitions : Definitions) (held : Numbered HeldReferents) (state : State)
      → (stands : StandsAt from map was definitions held state) → from ≤ oldest → oldest ≤ stands.contents.directory.accepted
      → HoldsFewer oldest most gone stands.contents new is → StandsFewer oldest most gone stands.contents new is definitions held state
  stands_fewer from oldest most gone pages new was is definitions held state stands low high fewer =
      let old = stands.contents in
      let contents = fewer.contents in
      let level = old.directory.accepted in
      let same : contents.directory.accepted ≡ level = fewer.loses.accepted in
      let beside = cleared_keeps events referents oldest old (record contents { directory = old.directory }) fewer.loses.cleared.parts in
      let keeps : KeepsRecords oldest old contents = record { definitions = beside.definitions; tables = beside.tables; referents = beside.referents } in
      let lives = live oldest old contents keeps in
      let sees = lives.each level high (omega arith) in
      let distinct : (route : ℕ) → AreDistinct (map (λ one. one.0) (referents_at level route old.referents.referents)) =
      (stands.meant.records level (omega (arith, low, high)) (omega arith)).referents.once in
      let state_is : IsState contents state =
      subst (λ n. IsStateAt n contents state) (sym same) (state_stays rows named facts level old contents sees distinct keeps.definitions state stands.is) in
      let memory : AreInMemory definitions held contents = record {
        catalog = subst (λ n. AreDefinitionsAt n contents.definitions definitions) (sym same)
            (subst (λ (d : CatalogueItems). AreDefinitionsAt level d definitions) (sym keeps.definitions) stands.memory.catalog);
        referents = λ route. stands.memory.referents route ∙ sym (named level route old contents sees (distinct route)) ∙ ap (λ n. referents_seen contents n route) (sym same);
      } in
      let before : IsMeant oldest old = record { definitions = stands.meant.definitions; records = λ n above. stands.meant.records n (omega (arith, low, above)) } in
      record {
        stands = record {
          contents = contents;
          holds = fewer.holds;
          opened = fewer.opened;
          memory = memory;
          live = omega (arith, high, same);
          meant = records_meant oldest old contents before keeps same;
          is = state_is;
          views = stands.views;
        };
        loses = fewer.loses;
        live = lives;
      }
