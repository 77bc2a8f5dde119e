-- Records that were cleared at the same version, as a store has it once its pages are kept or taken back.
use Rattle.std.proofs.Common.{◌≡◌, ◌≤◌, ◌∙◌, ℕ, Bool, List, Result, Ok, Err, ap, inl, inr, refl, subst, sym, arith}
use Rattle.std.specs.List.{AllByRecursion}
use Rattle.std.specs.Prelude.{◌≢◌, IfOk, OnOk}
use Rattle.rs_catalog.specs.Definitions.{Definitions, Numbered}
use Rattle.rs_catalog.specs.Referents.{HeldReferents}
use Rattle.rs_catalog_pages.specs.Said.{said_catalogue}
use Rattle.rs_catalog_pages.specs.Storing.{StoresAfter}
use Rattle.rs_file.specs.Contents.{Contents, HoldsAll, SameContents, SameTable}
use Rattle.rs_file.specs.declared.opened.OpenedFile.{OpenedFile}
use Rattle.rs_disk.specs.declared.disk.Disk as disk
use Rattle.rs_file.proofs.Loaded.{same_map}
use Rattle.rs_file_parts.specs.Clearing.{ClearsReferents, ClearsTable}
use Rattle.rs_file_parts.specs.Parts.{IsCommitted, KeepsCommitted}
use Rattle.rs_file_parts.proofs.Lists.{each_then}
use Rattle.rs_machine.specs.State.{State}
use Rattle.rs_pager.specs.Maps.{IsTied, KeepsBelow, committed, pager_store, working}
use Rattle.rs_pager.specs.Paged.{Paged}
use Rattle.rs_pages.specs.PageMap.{PageMap}
use Rattle.rs_pages.proofs.Stores.{SamePages-trans}
use Rattle.rs_refusal.specs.declared.refusal.Refusal.{Refusal}
use Rattle.rs_changes.specs.Changing.{HoldsNoFile}
use Rattle.rs_changes.specs.Clearing.{ClearsFile, HoldsFewer, LosesRecords, StandsFewer}
use Rattle.rs_changes.specs.Standing.{StandsAt}
use Rattle.rs_changes.specs.Calls.{MayChange}
use Rattle.rs_refusal.specs.declared.refusal.Refusal.TheVariants as refusal
use Rattle.rs_store.specs.Bracket.{BeginsChange}
use Rattle.rs_store.specs.Changing.{Always}
use Rattle.rs_store.specs.Kept.{IsAtRest, Keeps, StandsIn, StoreState}
use Rattle.rs_store.specs.Releasing.{HasReleased, LeavesReleased}
use Rattle.rs_store.specs.Settling.{HasBegun, IsKept, Settles}
use Rattle.rs_store.proofs.Enduring.{lasts_kept}
use Rattle.rs_store.proofs.HeldChanges.{still_as_it_was}
use Rattle.rs_store.proofs.Keeping.{pages_back, store_over}
use Rattle.rs_store.proofs.Same.{SameMeant, SameSays, SameState, meant_moves, same_accepted, state_moves}
use Rattle.rs_store.proofs.Settled.{EventsStay, LiveByRecords, LiveJoined, ReferentsStay, clears_table, holds_same, left_refused, live_same, may_next, memory_same, no_file_refuted, parts_of, records_same, rests_refused, stands_at_first}
use Rattle.rs_versioned.specs.Referents.{ReferentRecord}

-- what the law of a file from which records are cleared says
abbrev pub ClearedStands : Type 0
ClearedStands = (from oldest most gone : ℕ) (map new : PageMap) (was is : OpenedFile) (definitions : Definitions) (held : Numbered HeldReferents) (state : State)
    → (stands : StandsAt from map was definitions held state) → from ≤ oldest → oldest ≤ stands.contents.directory.accepted
    → HoldsFewer oldest most gone stands.contents new is → StandsFewer oldest most gone stands.contents new is definitions held state

-- ---- contents that are the same

loses_same : (oldest most gone : ℕ) (old one other : Contents) → SameContents one other → LosesRecords oldest most gone old one → LosesRecords oldest most gone old other
loses_same oldest most gone old one other same loses = record {
  cleared = record {
    parts = record {
      definitions = sym same.definitions ∙ loses.cleared.parts.definitions;
      directory = refl;
      tables = each_then (ClearsTable oldest) SameTable (ClearsTable oldest) (clears_table oldest) old.tables one.tables other.tables loses.cleared.parts.tables same.tables;
      referents = subst (λ (rs : List ReferentRecord). ClearsReferents oldest old.referents.referents rs) same.referents loses.cleared.parts.referents;
    };
    many = omega (arith, loses.cleared.many, records_same one other same);
    as_many = loses.cleared.as_many;
  };
  accepted = sym (same_accepted one other same) ∙ loses.accepted;
}

-- ---- what is open

-- what was cleared leaves what is open and in memory at rest, kept or taken back
pub rests_released : {D T : Type 0} (d : disk.Ghosts D) (result : Result T Refusal) (between last : Paged D) (file changed settled : OpenedFile) (catalog : Definitions) → IsAtRest file catalog
    → KeepsCommitted file changed → OnOk result (MayChange changed) → Settles d result between last changed settled → IsAtRest settled catalog
rests_released d (Ok answer) between last file changed settled catalog rests keeps may settles =
    let kept = settles.file in
    let same : said_catalogue settled.definitions ≡ said_catalogue file.definitions = ap said_catalogue (kept.definitions ∙ keeps.definitions) in
    let level : settled.accepted ≡ file.accepted = kept.accepted ∙ keeps.accepted in
    record {
      may = may_next changed settled may kept;
      committed = kept.committed;
      listing = rests.listing ∙ sym same;
      births = subst (λ (n : ℕ). AllByRecursion (λ route. route.born ≤ n) (said_catalogue settled.definitions).routes) (sym level)
          (subst (λ items. AllByRecursion (λ route. route.born ≤ file.accepted) items.routes) (sym same) rests.births);
      columns = rests.columns;
      bound = omega (arith, rests.bound, level);
    }
rests_released d (Err why) between last file changed settled catalog rests keeps may settles = rests_refused file changed settled catalog rests keeps settles.file

module _ {D : Type 0} (d : disk.Ghosts D) where
  -- nothing was begun, since there was no memory or the disk failed
  pub unreleased : {T : Type 0} (why : Refusal) (was : StoreState D) (first : Paged D) → BeginsChange d (Err why) was.pager first
      → LeavesReleased d {T = T} (Err why) was (store_over d first was.file was.catalog was.referents)
  unreleased why was first begins =
      let keeps = begins.keeps was.file was.catalog was.referents in
      record {
        stays = keeps.contents;
        opened = still_as_it_was was.file was.file refl;
        changes = begins.unbegun;
        refused = elim begins.refused [ inl memory ↦ inl memory | inr failed ↦ inr (inl failed) ];
        sound = λ from state stands is.
            let e : why ≡ refusal.DamagedFile = cc in
            elim begins.refused [ inl memory ↦ absurd (cc (e, memory)) | inr failed ↦ absurd (cc (e, failed)) ];
        catalog = refl;
        referents = refl;
        accepted = refl;
        failures = begins.count;
        full = omega (arith, keeps.full);
        honesty = keeps.honesty;
        limit = keeps.limit;
        lasts = keeps.endures.lasts;
      }

  module _ (old : StoreState D) (first between last : Paged D) (file changed settled : OpenedFile) (catalog : Definitions) (referents : Numbered HeldReferents)
      (begun : HasBegun d old (store_over d first file catalog referents)) (below : KeepsBelow d first between) where
    abbrev after : StoreState D
    after = store_over d last settled catalog referents

    -- what is left, whether records were cleared or that was refused
    pub left_released : {T : Type 0} (result : Result T Refusal) → StoresAfter {T = T} (IsTied d first → HoldsNoFile (working d first) file) result (pager_store d first) (pager_store d between)
        → KeepsCommitted file changed → IsCommitted file → result ≢ Err refusal.FileFull → Settles d result between last changed settled → LeavesReleased d result old after
    left_released (Ok answer) stores keeps whole room kept = record {
      stays = λ contents held. tt;
      opened = tt;
      changes = tt;
      refused = tt;
      sound = λ from state stands is. absurd cc;
      catalog = begun.keeps.catalog;
      referents = begun.keeps.referents;
      accepted = kept.file.accepted ∙ keeps.accepted ∙ ap (λ (f : OpenedFile). f.accepted) begun.keeps.file;
      failures = ap d.failures kept.commits.disk ∙ stores.ends.failures ∙ begun.failures;
      full = kept.commits.full ∙ stores.ends.full ∙ begun.keeps.full;
      honesty = ap d.is_honest kept.commits.disk ∙ below.honesty ∙ begun.keeps.honesty;
      limit = kept.commits.limit ∙ stores.counts.limit ∙ begun.keeps.limit;
      lasts = lasts_kept d old.pager first between last begun.keeps.endures below changed settled kept;
    }
    left_released {T = T} (Err why) stores keeps whole room back =
        let left = left_refused d old first between last file changed settled catalog referents begun below {may = Always} {T = T} why catalog referents stores
        (λ from state stands allowed is none. no_file_refuted d old first between last file changed settled catalog referents begun below from state stands none)
        keeps whole back refl (λ route. refl) in
        record {
          stays = left.stays;
          opened = left.opened;
          changes = left.changes;
          refused = elim stores.ends.cause [
            | inl memory ↦ inl memory
            | inr (inl failed) ↦ inr (inl failed)
            | inr (inr (inl full)) ↦ absurd (room (ap Err full.0))
            | inr (inr (inr damaged)) ↦ inr (inr damaged.0)
          ];
          sound = λ from state stands. left.sound from state stands tt;
          catalog = begun.keeps.catalog;
          referents = begun.keeps.referents;
          accepted = left.accepted;
          failures = left.failures;
          full = omega (arith, stores.counts.full_refusals, back.abandons.full, begun.keeps.full);
          honesty = left.honesty;
          limit = left.limit;
          lasts = left.lasts;
        }

    -- ---- the state

    module _ (says : SameSays) (meant_alike : SameMeant) (state_alike : SameState) (events_stay : EventsStay) (referents_stay : ReferentsStay)
        (by_records : LiveByRecords) (joined : LiveJoined) (cleared_stands : ClearedStands) where
      -- A file that stands for the state with fewer records makes a store that does, once it is kept.
      released_kept : IsKept d between last changed settled → (oldest gone : ℕ) (before : Contents) (state : State) → Keeps d old before
          → StandsFewer oldest 64 gone before (working d between) changed catalog referents state → HasReleased d oldest gone before after state
      released_kept kept oldest gone before state keeps fewer =
          let one = fewer.stands.contents in
          let made = (kept.file.stays (working d between) one.directory.accepted).each one fewer.stands.holds.parts (parts_of changed one fewer.stands.opened) in
          let other = made.contents in
          let same : SameContents one other = made.changed in
          let level = same_accepted one other same in
          let at = begun.keeps.contents before keeps in
          let map = same_map (committed d last) (working d between) kept.committed_pages in
          record {
            stands = record {
              contents = other;
              keeps = record {
                tied = kept.tied (below.tied at.tied);
                same = SamePages-trans _ _ _ kept.working_pages (pages_back _ _ kept.committed_pages);
                holds = subst (λ (m : PageMap). HoldsAll m other) (sym map) (holds_same (working d between) one other same fewer.stands.holds made.holds);
                opened = record {
                  definitions = made.opened.definitions;
                  pages = made.opened.pages;
                  tables = made.opened.tables;
                  referents = made.opened.referents;
                  accepted = sym level ∙ fewer.stands.opened.accepted ∙ sym kept.file.accepted;
                };
                memory = memory_same catalog referents one other same fewer.stands.memory;
              };
              live = omega (arith, fewer.stands.live, level);
              meant = meant_moves says meant_alike oldest one other same fewer.stands.meant;
              is = state_moves says state_alike one other state same fewer.stands.is;
              views = fewer.stands.views;
            };
            loses = loses_same oldest 64 gone before one other same fewer.loses;
            live = live_same events_stay referents_stay by_records joined oldest before one other same fewer.live (omega (arith, fewer.loses.accepted));
          }

      pub released : (result : Result ℕ Refusal) (from oldest : ℕ) (state : State) (stands : StandsIn d from old state) → from ≤ oldest → oldest ≤ old.file.accepted
          → IfOk result (λ gone. ClearsFile oldest 64 gone (working d first) (working d between) file changed) → Settles d result between last changed settled
          → IfOk result (λ gone. HasReleased d oldest gone stands.contents after state)
      released (Ok gone) from oldest state stands low high clears kept =
          let at = stands_at_first d old first between last file changed settled catalog referents begun below from state stands in
          let level : stands.contents.directory.accepted ≡ old.file.accepted = stands.keeps.opened.accepted in
          released_kept kept oldest gone stands.contents state stands.keeps
          (cleared_stands from oldest 64 gone (working d first) (working d between) file changed catalog referents state at low (omega (arith, high, level))
          (clears.each stands.contents at.holds at.opened))
      released (Err why) from oldest state stands low high clears back = tt
