-- The pages of a file that was opened: those of version 2 are only read, and those of version 1 are made its.
use Rattle.std.proofs.Common.{◌≡◌, ◌∙◌, ◌⊎◌, IsTrue, false, true, inl, inr, refl, subst, sym}
use Rattle.rs_disk.specs.Content.{Content}
use Rattle.rs_disk.specs.Crash.{Same}
use Rattle.rs_disk.specs.Reaches.{Reaches}
use Rattle.rs_disk.specs.declared.disk.Disk as disk
use Rattle.rs_file.proofs.Loaded.{same_map}
use Rattle.rs_page.specs.declared.file_header.TheConstants.{FLAG_OFFSET}
use Rattle.rs_pager.specs.Below.{KeepsBelow-trans}
use Rattle.rs_pager.specs.Lasts.{KeepsMap}
use Rattle.rs_pager.specs.Maps.{IsTied, KeepsBelow, KeepsMaps, committed, working}
use Rattle.rs_pager.specs.Paged.{Paged}
use Rattle.rs_pages.specs.PageMap.{PageMap}
use Rattle.rs_pages.proofs.Stores.{SamePages-trans}
use Rattle.rs_store.specs.Calls.{LeavesDisk, OpensPages}
use Rattle.rs_store.specs.Loading.{StandsForSome}

module _ {D : Type 0} (d : disk.Ghosts D) where
  -- what is kept below the working pages is only read of the disk
  pub below_reaches : (old new : Paged D) → KeepsBelow d old new → Reaches d Same old.disk new.disk
  below_reaches old new below = record { honesty = below.honesty; keeping = below.keeping; reads = below.unwritten; images = below.crash }

  -- maps that stay in one call after another
  pub maps-trans : (a b c : Paged D) → KeepsMaps d a b → KeepsMaps d b c → KeepsMaps d a c
  maps-trans a b c one other = record {
    tied = λ tied. other.tied (one.tied tied);
    committed = λ tied. SamePages-trans _ _ _ (other.committed (one.tied tied)) (one.committed tied);
    working = λ tied. SamePages-trans _ _ _ (other.working (one.tied tied)) (one.working tied);
    committed_fields = other.committed_fields ∙ one.committed_fields;
    working_fields = other.working_fields ∙ one.working_fields;
    honesty = other.honesty ∙ one.honesty;
    limit = other.limit ∙ one.limit;
    full = other.full ∙ one.full;
    least = other.least;
    within = other.within;
  }

  -- the disk has all pages, which were read
  pub opens_read : (old new : Paged D) → LeavesDisk d old new → old.is_header_changed ≡ false → OpensPages d old new
  opens_read old new leaves has = record {
    tied = leaves.tied;
    committed = leaves.committed;
    working = leaves.working;
    limit = leaves.limit;
    begun = leaves.begun;
    kept = λ tied all. let was = all has in record { pages = was.pages; is_kept = leaves.below.kept was.pages tied was.is_kept; are = was.are };
  }

  -- the disk lacked page 0 of version 2, and the pages that were read were made the file's
  pub opens_raised : (old mid new : Paged D) → LeavesDisk d old mid → KeepsMaps d mid new → (IsTied d mid → KeepsMap d new (committed d mid)) → new.is_begun ≡ mid.is_begun
      → OpensPages d old new
  opens_raised old mid new leaves keeps kept begun = record {
    tied = λ tied. keeps.tied (leaves.tied tied);
    committed = λ tied. SamePages-trans _ _ _ (keeps.committed (leaves.tied tied)) (leaves.committed tied);
    working = λ tied. SamePages-trans _ _ _ (keeps.working (leaves.tied tied)) (leaves.working tied);
    limit = keeps.limit ∙ leaves.limit;
    begun = begun ∙ leaves.begun;
    kept = λ tied all.
        subst (λ (map : PageMap). KeepsMap d new map) (same_map (committed d mid) (committed d old) (leaves.committed tied)) (kept (leaves.tied tied));
  }

  -- pages that were read and, where the disk lacked page 0 of version 2, made the file's
  pub opened_pages : (old mid new : Paged D) → LeavesDisk d old mid → (mid.is_header_changed ≡ false → new ≡ mid) → (mid.is_header_changed ≡ true → KeepsMaps d mid new)
      → (mid.is_header_changed ≡ true → IsTied d mid → KeepsMap d new (committed d mid)) → new.is_begun ≡ mid.is_begun → OpensPages d old new
  opened_pages old mid new leaves alone keeps kept begun =
      elim mid.is_header_changed as (λ b. mid.is_header_changed ≡ b → OpensPages d old new) [
        | true ↦ λ lacks. opens_raised old mid new leaves (keeps lacks) (kept lacks) begun
        | false ↦ λ has. subst (λ (p : Paged D). OpensPages d old p) (sym (alone has)) (opens_read old mid leaves (sym leaves.below.lacks ∙ has))
      ] refl

  -- of version 2 nothing is written
  pub opened_read : (old mid new : Paged D) → LeavesDisk d old mid → (mid.is_header_changed ≡ false → new ≡ mid) → old.is_header_changed ≡ false → KeepsBelow d old new
  opened_read old mid new leaves alone has = subst (λ (p : Paged D). KeepsBelow d old p) (sym (alone (leaves.below.lacks ∙ has))) leaves.below

  -- only a closed file of version 1, whose pages stand for a state, is written
  pub unclosed_after : (old mid new : Paged D) → KeepsBelow d old mid → StandsForSome (working d old) → IsTrue (d.is_honest old.disk)
      → KeepsBelow d mid new ⊎ ((mid.is_header_changed ≡ true) × ((d.seen mid.disk).byte FLAG_OFFSET ≡ 0))
      → KeepsBelow d old new ⊎ ((old.is_header_changed ≡ true) × StandsForSome (working d old) × ((d.seen old.disk).byte FLAG_OFFSET ≡ 0))
  unclosed_after old mid new below some honest after = elim after [
    | inl read ↦ inl (KeepsBelow-trans d old mid new below read)
    | inr raised ↦ inr (sym below.lacks ∙ raised.0, some, subst (λ (content : Content). content.byte FLAG_OFFSET ≡ 0) (below.unwritten honest) raised.1)
  ]
