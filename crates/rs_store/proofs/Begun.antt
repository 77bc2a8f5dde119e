-- How a change is begun: room is made for it, and then the pager begins.
use Rattle.std.specs.Prelude.{◌≢◌, ◌⊎◌}
use Rattle.std.proofs.Common.{◌≡◌, ◌≤◌, ◌<◌, ℕ, None, Ok, Err, [], length, true, subst, sym}
use Rattle.rs_catalog.specs.Definitions.{Definitions, Numbered}
use Rattle.rs_catalog.specs.Referents.{HeldReferents}
use Rattle.rs_disk.specs.declared.disk.Disk as disk
use Rattle.rs_file.specs.declared.opened.OpenedFile.{OpenedFile}
use Rattle.rs_journal.specs.declared.stage.Stage.TheVariants.{Fresh}
use Rattle.rs_pager.specs.Lasts.{Lasts}
use Rattle.rs_pager.specs.Maps.{HoldsNoChange, KeepsChanges, KeepsMaps, committed, working}
use Rattle.rs_pager.specs.Opened.{CountsFault}
use Rattle.rs_pager.specs.Paged.{Paged, held}
use Rattle.rs_pager.specs.declared.pager.TheConstants.{MOST_CHANGED}
use Rattle.rs_pager.proofs.Keeping.{below-beside}
use Rattle.rs_pager.proofs.Lasting.{below_lasts}
use Rattle.rs_pages.specs.PageMap.{SamePages}
use Rattle.rs_refusal.specs.declared.refusal.Refusal.{Refusal}
use Rattle.rs_refusal.specs.declared.refusal.Refusal.TheVariants as refusal
use Rattle.rs_store.specs.Bracket.{BeginsChange}
use Rattle.rs_store.specs.Calls.{KeepsStore}
use Rattle.rs_store.proofs.HeldChanges.{begins_with}
use Rattle.rs_store.proofs.Keeping.{keeps_by_maps, keeps_store-trans, store_over}

module _ {D : Type 0} (d : disk.Ghosts D) (was room : Paged D) (keeps : KeepsMaps d was room) (lasts : Lasts d was room) where
  room_kept : (file : OpenedFile) (catalog : Definitions) (referents : Numbered HeldReferents)
      → KeepsStore d (store_over d was file catalog referents) (store_over d room file catalog referents)
  room_kept file catalog referents = keeps_by_maps d was room file catalog referents keeps lasts

  -- there was no memory or the disk failed, and nothing is begun
  pub begins_none : (why : Refusal) → KeepsChanges was room ⊎ HoldsNoChange room → (why ≡ refusal.OutOfMemory) ⊎ (why ≡ refusal.Disk)
      → CountsFault why (d.failures was.disk) (d.failures room.disk) → BeginsChange d (Err why) was room
  begins_none why changes refused count = record {
    keeps = room_kept;
    begins = tt;
    unbegun = record { committed_fields = keeps.committed_fields; working_fields = keeps.working_fields; changes = changes };
    refused = refused;
    count = count;
  }

  -- there is room, and the change is begun
  pub begins_made : {X : Type 0} (now : Paged D) → now ≡ record room { is_begun = true } → KeepsMaps d room now
      → (was.under_way.stage ≡ Fresh → length was.changes ≤ MOST_CHANGED → X × (room ≡ was))
      → ((MOST_CHANGED < length was.changes) ⊎ (was.under_way.stage ≢ Fresh) → HoldsNoChange room × (room.changes ≡ []))
      → ((number : ℕ) → (held room number).copy ≡ None) → SamePages (working d room) (committed d room)
      → d.failures room.disk ≡ d.failures was.disk → BeginsChange d (Ok tt) was now
  begins_made now begun maps few many copies same count = subst (λ (p : Paged D). BeginsChange d (Ok tt) was p) (sym begun) (record {
    keeps = λ file catalog referents.
        keeps_store-trans d (store_over d was file catalog referents) (store_over d room file catalog referents)
        (store_over d (record room { is_begun = true }) file catalog referents) (room_kept file catalog referents)
        (keeps_by_maps d room (record room { is_begun = true }) file catalog referents (subst (λ (p : Paged D). KeepsMaps d room p) begun maps)
        (below_lasts d room (record room { is_begun = true }) (below-beside d room room.working true room.full_refusals)));
    begins = begins_with d was room few many copies same keeps;
    unbegun = tt;
    refused = tt;
    count = count;
  })
