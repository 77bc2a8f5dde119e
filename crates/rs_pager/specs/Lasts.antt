-- What a crash might have left while a call ran, and what is kept after it.
use Rattle.std.specs.Prelude.{◌≡◌, ◌⊎◌, IsTrue, false, [], Result, MatchResult, OnOk}
use Rattle.rs_disk.specs.Content.{Content}
use Rattle.rs_disk.specs.declared.disk.Disk as disk
use Rattle.rs_pages.specs.PageMap.{PageMap, SamePages}
use Rattle.rs_journal.specs.FilePages.{FilePages}
use Rattle.rs_journal.specs.Journal.{Recovers}
use Rattle.rs_journal.specs.Stages.{IsQuiet}
use Rattle.rs_pager.specs.Paged.{Paged}
use Rattle.rs_pager.specs.Maps.{ArePages, IsKept, IsTied, KeepsMaps, committed as committed_pages, working as working_pages}
use Rattle.rs_pager.specs.Stored.{Stores}
use Rattle.rs_journal.specs.declared.stage.Stage.{Stage}
use Rattle.rs_page_copies.specs.Listed.{Checkpoint}

-- the image gives the pages of this map
pub record GivesMap (map : PageMap) (image : Content) : Type 0 where
  pub pages : FilePages
  pub recovers : Recovers image pages
  pub are : ArePages map pages

-- the checkpoint stands at another stage
abbrev pub stopped_pager : {D : Type 0} → D → Stage → Paged D → Paged D
stopped_pager disk stage p = record p { disk = disk; under_way = record p.under_way { stage = stage } }

-- the disk has all that is committed
abbrev pub written_pager : {D : Type 0} → D → Checkpoint → Paged D → Paged D
written_pager disk under_way p = record p { disk = disk; changes = []; is_header_changed = false; under_way = under_way }

module _ {D : Type 0} (d : disk.Ghosts D) where
  -- the pages of this map are the ones kept last
  pub record KeepsMap (p : Paged D) (map : PageMap) : Type 0 where
    pub pages : FilePages
    pub is_kept : IsKept d p pages
    pub are : ArePages map pages

  -- What a crash might have left meanwhile counted before already, or has the pages kept last, with a closed gate, or gives the committed
  -- ones; and one of these are kept last now.
  pub record Lasts (old new : Paged D) : Type 0 where
    pub meanwhile : (kept : FilePages) → IsTied d old → IsKept d old kept → IsTrue (d.keeps_crashes old.disk) → (start : D) (image : Content)
        → d.left_since start new.disk image → d.left_since start old.disk image ⊎ (IsQuiet kept image ⊎ GivesMap (committed_pages d old) image)
    pub next : (kept : FilePages) → IsTied d old → IsKept d old kept → IsKept d new kept ⊎ KeepsMap new (committed_pages d old)
    pub keeping : d.keeps_crashes new.disk ≡ d.keeps_crashes old.disk

  -- what a checkpoint leaves, whatever it answers: both maps stay, what is kept last is these pages still or the committed ones, and a
  -- crash meanwhile leaves one of the two
  pub record Carried {T E : Type 0} (kept : FilePages) (result : Result T E) (old new : Paged D) : Type 0 where
    pub tied : IsTied d new
    pub committed : SamePages (committed_pages d new) (committed_pages d old)
    pub working : SamePages (working_pages d new) (working_pages d old)
    pub next : MatchResult result (λ _. KeepsMap new (committed_pages d old)) (λ _. IsKept d new kept)
    pub meanwhile : IsTrue (d.keeps_crashes old.disk) → (start : D) (image : Content) → d.left_since start new.disk image
        → d.left_since start old.disk image ⊎ (IsQuiet kept image ⊎ GivesMap (committed_pages d old) image)
    pub stored : OnOk result (Stores (d.seen new.disk) (committed_pages d new))

  -- what the cut of a file leaves, whose pages are all kept
  pub record Cuts (kept : FilePages) (old new : Paged D) : Type 0 where
    pub tied : IsTied d new
    pub committed : SamePages (committed_pages d new) (committed_pages d old)
    pub working : SamePages (working_pages d new) (working_pages d old)
    pub is_kept : IsKept d new kept
    pub meanwhile : IsTrue (d.keeps_crashes old.disk) → (start : D) (image : Content) → d.left_since start new.disk image
        → d.left_since start old.disk image ⊎ IsQuiet kept image
    pub stored : Stores (d.seen new.disk) (committed_pages d new)

  -- what a checkpoint does to a pager and what it keeps
  pub record Checkpoints {T E : Type 0} (result : Result T E) (old new : Paged D) : Type 0 where
    pub keeps : KeepsMaps d old new
    pub lasts : Lasts old new
    pub written : IsTied d old → OnOk result (Stores (d.seen new.disk) (committed_pages d new))
    pub kept : (pages : FilePages) → IsTied d old → IsKept d old pages → OnOk result (KeepsMap new (committed_pages d old))
