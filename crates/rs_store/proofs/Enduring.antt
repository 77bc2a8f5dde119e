-- What lasts over several calls, and which states a crash leaves.
use Rattle.std.proofs.Common.{◌≡◌, ◌≤◌, ◌⊎◌, ℕ, IsTrue, inl, inr, refl, subst, sym}
use Rattle.rs_disk.specs.Content.{Content}
use Rattle.rs_checkpoint.proofs.Kept.{image_gives as image_given}
use Rattle.rs_disk.specs.declared.disk.Disk as disk
use Rattle.rs_file.specs.declared.opened.OpenedFile.{OpenedFile}
use Rattle.rs_journal.specs.declared.stage.Stage.TheVariants.{Fresh}
use Rattle.rs_journal.proofs.Staging.{quiet-gives}
use Rattle.rs_machine.specs.State.{State}
use Rattle.rs_pager.specs.Below.{KeepsBelow-refl}
use Rattle.rs_pager.specs.Lasts.{GivesMap, KeepsMap, Lasts}
use Rattle.rs_pager.specs.Maps.{IsTied, KeepsBelow, KeepsMaps, committed}
use Rattle.rs_pager.specs.Paged.{Paged}
use Rattle.rs_pager.proofs.Lasting.{below_lasts, goes_on, settled}
use Rattle.rs_pager.proofs.OneMap.{no_both}
use Rattle.rs_pages.specs.PageMap.{PageMap}
use Rattle.rs_pages.proofs.Stores.{SamePages-trans}
use Rattle.rs_store.specs.Kept.{StandsIn, StoreState}
use Rattle.rs_store.specs.Lasting.{Endures, IsLast, LeavesOneOf}
use Rattle.rs_store.specs.Settling.{IsKept as IsChangeKept, IsTakenBack}
use Rattle.rs_store.specs.Standing.{IsSecondFileOf, Stands, StandWithin}
use Rattle.rs_store.proofs.Same.{fewer_meant}

-- an image that gives the pages of a state stands for it
pub stands_by : (limit : ℕ) (image : Content) (map : PageMap) (state : State) → GivesMap map image → StandWithin limit map state → Stands limit image state
stands_by limit image map state gives stand = record {
  file = record { pages = map; stores = inl gives; stand = stand };
  closed = λ first. absurd (no_both image map map gives first);
}

module _ {D : Type 0} (d : disk.Ghosts D) where
  -- ---- calls

  pub endures-refl : (p : Paged D) → Endures d p p
  endures-refl p = record { tied = λ tied. tied; committed = λ _. record { fields = refl; pages = λ n. refl }; lasts = below_lasts d p p (KeepsBelow-refl d p) }

  pub endures-trans : (a b c : Paged D) → Endures d a b → Endures d b c → Endures d a c
  endures-trans a b c one other = record {
    tied = λ tied. other.tied (one.tied tied);
    committed = λ tied. SamePages-trans _ _ _ (other.committed (one.tied tied)) (one.committed tied);
    lasts = goes_on d a b c one.tied one.committed one.lasts other.lasts;
  }

  pub endures_below : (old new : Paged D) → KeepsBelow d old new → Endures d old new
  endures_below old new below = record { tied = below.tied; committed = below.committed; lasts = below_lasts d old new below }

  pub endures_maps : (old new : Paged D) → KeepsMaps d old new → Lasts d old new → Endures d old new
  endures_maps old new keeps lasts = record { tied = keeps.tied; committed = keeps.committed; lasts = lasts }

  -- a change from its beginning to its end
  module _ (old first between last : Paged D) (begun : Endures d old first) (below : KeepsBelow d first between) where
    changed_lasts : Lasts d old between
    changed_lasts = goes_on d old first between begun.tied begun.committed begun.lasts (below_lasts d first between below)

    pub lasts_kept : (changed settled_file : OpenedFile) → IsChangeKept d between last changed settled_file → Lasts d old last
    lasts_kept changed settled_file kept = settled d old between last changed_lasts kept.commits.disk kept.kept

    pub lasts_taken_back : (changed settled_file : OpenedFile) → IsTakenBack d between last changed settled_file → Lasts d old last
    lasts_taken_back changed settled_file back = settled d old between last changed_lasts back.abandons.disk back.kept

  -- ---- states

  -- the pages of a store that stands in a state
  pub stand_within : (oldest : ℕ) (store : StoreState D) (state : State) → StandsIn d oldest store state → (limit : ℕ) → store.pager.committed_fields.pages ≤ limit
      → StandWithin limit (committed d store.pager) state
  stand_within oldest store state stands limit within = record {
    within = within;
    contents = stands.contents;
    stands = record {
      holds = stands.keeps.holds;
      meant = fewer_meant oldest stands.contents.directory.accepted stands.contents stands.live stands.meant;
      is = stands.is;
      views = stands.views;
    };
  }

  -- while no checkpoint is under way, a read gives the pages kept last, and so does each image that a crash may leave
  module _ (p : Paged D) (map : PageMap) (keeps : KeepsMap d p map) (fresh : p.under_way.stage ≡ Fresh) where
    pub read_gives : GivesMap map (d.seen p.disk)
    read_gives = record { pages = keeps.pages; recovers = quiet-gives keeps.pages (d.seen p.disk) (keeps.is_kept.quiet fresh).reads; are = keeps.are }

    pub read_second : (limit : ℕ) (state : State) → StandWithin limit map state → IsSecondFileOf limit (d.seen p.disk) state
    read_second limit state stand = record { pages = map; stand = stand; file_pages = keeps.pages; are = keeps.are; quiet = (keeps.is_kept.quiet fresh).reads }

    pub image_gives : IsTrue (d.keeps_crashes p.disk) → (image : Content) → d.may_leave p.disk image → GivesMap map image
    image_gives on image left = record { pages = keeps.pages; recovers = quiet-gives keeps.pages image ((keeps.is_kept.quiet fresh).images on image left); are = keeps.are }

  -- what a crash leaves while calls last stands for the state kept last or for the one at entry
  module _ (old new : Paged D) (lasts : Lasts d old new) (tied : IsTied d old) (last state : State) (was : IsLast d old last)
      (stand : StandWithin old.limit (committed d old) state) where
    pub leaves_one : IsTrue (d.keeps_crashes old.disk) → LeavesOneOf d old.limit last state old.disk new.disk
    leaves_one on start image left = elim (lasts.meanwhile was.keeps.pages tied was.keeps.is_kept on start image left) [
      | inl before ↦ inl before
      | inr (inl is) ↦
          inr (inl (stands_by old.limit image was.pages last (record { pages = was.keeps.pages; recovers = quiet-gives was.keeps.pages image is; are = was.keeps.are }) was.stand))
      | inr (inr gives) ↦ inr (inr (stands_by old.limit image (committed d old) state gives stand))
    ]

    pub last_later : new.limit ≡ old.limit → IsLast d new last ⊎ IsLast d new state
    last_later same = elim (lasts.next was.keeps.pages tied was.keeps.is_kept) [
      | inl still ↦ inl (record {
        pages = was.pages;
        keeps = record { pages = was.keeps.pages; is_kept = still; are = was.keeps.are };
        stand = subst (λ (limit : ℕ). StandWithin limit was.pages last) (sym same) was.stand;
      })
      | inr now ↦ inr (record {
        pages = committed d old;
        keeps = now;
        stand = subst (λ (limit : ℕ). StandWithin limit (committed d old) state) (sym same) stand;
      })
    ]

  -- what a crash may leave now stands for the state kept last or for the present one
  pub image_stands : (p : Paged D) (last state : State) → IsLast d p last → StandWithin p.limit (committed d p) state → IsTrue (d.keeps_crashes p.disk) → (image : Content)
      → d.may_leave p.disk image → Stands p.limit image last ⊎ Stands p.limit image state
  image_stands p last state was stand on image left = elim (image_given d p was.keeps.pages was.keeps.is_kept on image left) [
    | inl is ↦ inl (stands_by p.limit image was.pages last (record { pages = was.keeps.pages; recovers = quiet-gives was.keeps.pages image is; are = was.keeps.are }) was.stand)
    | inr gives ↦ inr (stands_by p.limit image (committed d p) state gives stand)
  ]
