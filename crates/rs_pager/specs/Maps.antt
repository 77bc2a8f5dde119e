-- The two maps of pages of a pager, and what ties it to its disk.
use Rattle.std.specs.Prelude.{◌≡◌, ◌≢◌, ◌<◌, ◌≤◌, ◌+◌, ◌*◌, ℕ, false, IsTrue, Option, Some, None, List, if◌then◌else◌}
use Rattle.std.specs.Option.{unwrap_or}
use Rattle.rs_disk.specs.Content.{Content}
use Rattle.rs_disk.specs.Crash.{Same, Passes}
use Rattle.rs_disk.specs.declared.disk.Disk as disk
use Rattle.rs_page.specs.declared.page.TheConstants.{PAGE_SIZE}
use Rattle.rs_pages.specs.Held.{nothing_held, held_change}
use Rattle.rs_pages.specs.PageMap.{PageMap, SamePages, is_page}
use Rattle.rs_pages.specs.Store.{Store}
use Rattle.rs_page_cache.specs.Clean.{AreClean, AreAfterHeader}
use Rattle.rs_page_cache.specs.Stored.{disk_page}
use Rattle.rs_page_copies.specs.Listed.{AreFilled, ListsCommitted, journal_from}
use Rattle.rs_journal.specs.FilePages.{FilePages}
use Rattle.rs_journal.specs.Journal.{Journal, MakesPages}
use Rattle.rs_journal.specs.Recovery.{SaysCount}
use Rattle.rs_journal.specs.Stages.{EveryImage, IsQuiet, StageImage}
use Rattle.rs_journal.specs.declared.stage.Stage.TheVariants.{Fresh}
use Rattle.rs_pager.specs.Paged.{Paged, held}
use Rattle.rs_pager.specs.SecondHeader.{IsSecondHeader}
use Rattle.rs_pager.specs.Stored.{Stores, content_of_pages}

-- a page that is held, else as the disk has it, in a file of so many pages
abbrev pub page_or_stored : ℕ → Option (List ℕ) → Content → ℕ → Option (List ℕ)
page_or_stored pages change content number =
    if is_page pages number then Some (unwrap_or change (disk_page content number)) else None

-- the held changes are the same: the pages that the disk lacks, the working copies and the fields of page 0
pub record KeepsChanges {D : Type 0} (old new : Paged D) : Type 0 where
  pub held : (number : ℕ) → held new number ≡ held old number
  pub lacks : new.is_header_changed ≡ old.is_header_changed
  pub committed_fields : new.committed_fields ≡ old.committed_fields
  pub working_fields : new.working ≡ old.working

-- the disk has all that is committed, and no page has a working copy
pub record HoldsNoChange {D : Type 0} (p : Paged D) : Type 0 where
  pub none : (number : ℕ) → held p number ≡ nothing_held
  pub lacks : p.is_header_changed ≡ false

-- these are the pages of this map
pub record ArePages (map : PageMap) (pages : FilePages) : Type 0 where
  pub says : SaysCount pages
  pub counts : pages.count ≡ map.fields.pages
  pub stores : Stores (content_of_pages pages) map

module _ {D : Type 0} (d : disk.Ghosts D) where
  -- the committed pages: what the disk has, but for those that are changed and held
  abbrev pub committed : Paged D → PageMap
  committed p = record {
    fields = p.committed_fields;
    page = λ number. page_or_stored p.committed_fields.pages (held p number).committed (d.seen p.disk) number;
  }

  -- the working pages: the committed ones, with the changes since `begin`
  abbrev pub working : Paged D → PageMap
  working p = record {
    fields = p.working;
    page = λ number. page_or_stored p.working.pages (held_change (held p number)) (d.seen p.disk) number;
  }

  -- the pager as a store of pages
  abbrev pub pager_store : Paged D → Store
  pager_store p = record {
    map = working p;
    held = held p;
    limit = p.limit;
    failures = d.failures p.disk;
    full_refusals = p.full_refusals;
    is_begun = p.is_begun;
  }

  -- the journal of the checkpoint that is under way
  abbrev pub pager_journal : Paged D → Journal
  pager_journal p = journal_from p.committed_fields.pages p.changes p.under_way

  -- The checkpoint that is under way copies the committed pages that the disk lacks, and makes the committed pages of those kept last;
  -- each image that a crash may leave is one of its stage.
  pub record CarriesOn (p : Paged D) (kept : FilePages) : Type 0 where
    pub checkpoint : FilePages
    pub lists : ListsCommitted p.changes p.is_header_changed p.under_way.numbers
    pub makes : MakesPages (pager_journal p) kept checkpoint
    pub are : ArePages (committed p) checkpoint
    pub every : EveryImage d (StageImage p.under_way.stage kept (pager_journal p) checkpoint) p.disk

  -- these pages were kept last: where no checkpoint is under way each image that a crash may leave has them, and each committed page
  -- past them is held
  pub record IsKept (p : Paged D) (kept : FilePages) : Type 0 where
    pub says : SaysCount kept
    pub before : kept.count ≤ p.committed_fields.pages
    pub filled : AreFilled p.changes kept.count p.committed_fields.pages
    pub quiet : p.under_way.stage ≡ Fresh → EveryImage d (IsQuiet kept) p.disk
    pub under_way : p.under_way.stage ≢ Fresh → CarriesOn p kept

  -- the disk is honest, each clean page is as the disk has it and none is page 0, no page but a changed one lies past the
  -- end, page 0 says the committed fields unless they are changed, and some pages were kept last
  pub record IsTied (p : Paged D) : Type 0 where
    pub honest : IsTrue (d.is_honest p.disk)
    pub clean : AreClean (d.seen p.disk) p.clean
    pub after_header : AreAfterHeader p.clean
    pub first : PAGE_SIZE ≤ (d.seen p.disk).size
    pub inside : (number : ℕ) → 0 < number → number < p.committed_fields.pages
        → (held p number).committed ≡ None → PAGE_SIZE * number + PAGE_SIZE ≤ (d.seen p.disk).size
    pub header : p.is_header_changed ≡ false → IsSecondHeader (disk_page (d.seen p.disk) 0) p.committed_fields
    pub kept : FilePages
    pub is_kept : IsKept p kept

  -- The committed pages stay, what is held of them stays, and nothing is written to the disk: a crash leaves what it left before.
  pub record KeepsBelow (old new : Paged D) : Type 0 where
    pub tied : IsTied old → IsTied new
    pub committed : IsTied old → SamePages (committed new) (committed old)
    pub committed_fields : new.committed_fields ≡ old.committed_fields
    pub changed : (number : ℕ) → (held new number).committed ≡ (held old number).committed
    pub lacks : new.is_header_changed ≡ old.is_header_changed
    pub honesty : d.is_honest new.disk ≡ d.is_honest old.disk
    pub keeping : d.keeps_crashes new.disk ≡ d.keeps_crashes old.disk
    pub under_way : new.under_way ≡ old.under_way
    pub kept : (pages : FilePages) → IsTied old → IsKept old pages → IsKept new pages
    pub unwritten : IsTrue (d.is_honest old.disk) → d.seen new.disk ≡ d.seen old.disk
    pub crash : IsTrue (d.keeps_crashes old.disk) → Passes d.may_leave d.left_since Same old.disk new.disk

  -- both maps of pages stay, and so do the limit and the count of full refusals, whatever is written to the disk; there are two
  -- committed pages at least, and no more than the limit
  pub record KeepsMaps (old new : Paged D) : Type 0 where
    pub tied : IsTied old → IsTied new
    pub committed : IsTied old → SamePages (committed new) (committed old)
    pub working : IsTied old → SamePages (working new) (working old)
    pub committed_fields : new.committed_fields ≡ old.committed_fields
    pub working_fields : new.working ≡ old.working
    pub honesty : d.is_honest new.disk ≡ d.is_honest old.disk
    pub limit : new.limit ≡ old.limit
    pub full : new.full_refusals ≡ old.full_refusals
    pub least : 2 ≤ new.committed_fields.pages
    pub within : new.committed_fields.pages ≤ new.limit
