-- What a pager is once it was made, opened, written out, or its changes ended.
use Rattle.std.specs.Prelude.{◌≡◌, ◌≢◌, ◌≤◌, ◌*◌, ℕ, true, false, [], ◌↔◌}
use Rattle.rs_disk.specs.Content.{Content}
use Rattle.rs_disk.specs.declared.disk.Disk as disk
use Rattle.rs_page.specs.declared.page.TheConstants.{PAGE_SIZE}
use Rattle.rs_page.specs.PageBytes.{IsBlank}
use Rattle.rs_page.specs.declared.header.PageKind.TheVariants.{Directory}
use Rattle.rs_pages.specs.PageMap.{IsEmptyFile, empty_fields}
use Rattle.rs_page_cache.specs.Stored.{disk_page}
use Rattle.rs_journal.specs.declared.limits.TheConstants.{GATE}
use Rattle.rs_refusal.specs.declared.refusal.Refusal.{Refusal}
use Rattle.rs_refusal.specs.declared.refusal.Refusal.TheVariants as refusal
use Rattle.rs_refusal.specs.Counts.{counted_on}
use Rattle.rs_page_cache.specs.Changes.{committed_held, abandoned_held}
use Rattle.rs_journal.specs.declared.stage.Stage.TheVariants.{Fresh}
use Rattle.rs_pager.specs.Paged.{Paged, held}
use Rattle.rs_pager.specs.Lasts.{GivesMap, KeepsMap}
use Rattle.rs_pager.specs.Maps.{IsTied, committed}
use Rattle.rs_pager.specs.SecondHeader.{IsSecondHeader}
use Rattle.rs_pager.specs.Versions.{IsFileOfPages, StoresFirst}

-- a refusal that says that a call of the disk failed counts one failure, and no other does
pub record CountsFault (why : Refusal) (old new : ℕ) : Type 0 where
  pub disk : why ≡ refusal.Disk → new ≡ counted_on old
  pub other : why ≢ refusal.Disk → new ≡ old

-- nothing is begun and nothing is held, no page was refused, the limit is this, the count of pages is within it, and no
-- checkpoint is under way
pub record IsFresh {D : Type 0} (most : ℕ) (p : Paged D) : Type 0 where
  pub limit : p.limit ≡ most
  pub shut : p.is_begun ≡ false
  pub full : p.full_refusals ≡ 0
  pub same : p.working ≡ p.committed_fields
  pub no_held : p.changes ≡ []
  pub no_clean : p.clean ≡ []
  pub least : 2 ≤ p.committed_fields.pages
  pub greatest : p.committed_fields.pages ≤ most
  pub fresh : p.under_way.stage ≡ Fresh

-- each working copy is a committed page now that the disk lacks, and page 0 is changed exactly where it was or its fields
-- are others
pub record Commits {D : Type 0} (old new : Paged D) : Type 0 where
  pub held : (number : ℕ) → held new number ≡ committed_held (held old number)
  pub committed_fields : new.committed_fields ≡ old.working
  pub working : new.working ≡ old.working
  pub lacks : (new.is_header_changed ≡ false) ↔ ((old.is_header_changed ≡ false) × (old.committed_fields ≡ old.working))
  pub clean : new.clean ≡ old.clean
  pub shut : new.is_begun ≡ false
  pub disk : new.disk ≡ old.disk
  pub limit : new.limit ≡ old.limit
  pub full : new.full_refusals ≡ old.full_refusals
  pub under_way : new.under_way ≡ old.under_way

-- the working copies are gone
pub record Abandons {D : Type 0} (old new : Paged D) : Type 0 where
  pub held : (number : ℕ) → held new number ≡ abandoned_held (held old number)
  pub committed_fields : new.committed_fields ≡ old.committed_fields
  pub working : new.working ≡ old.committed_fields
  pub lacks : new.is_header_changed ≡ old.is_header_changed
  pub clean : new.clean ≡ old.clean
  pub shut : new.is_begun ≡ false
  pub disk : new.disk ≡ old.disk
  pub limit : new.limit ≡ old.limit
  pub full : new.full_refusals ≡ old.full_refusals
  pub under_way : new.under_way ≡ old.under_way

-- the content is a file of two pages with nothing in them
pub record HasEmptyFile (content : Content) : Type 0 where
  pub header : IsSecondHeader (disk_page content 0) empty_fields
  pub directory : IsBlank (disk_page content 1) Directory 1 0
  pub size : content.size ≡ 2 * PAGE_SIZE
  pub shut : content.byte GATE ≡ 0

module _ {D : Type 0} (d : disk.Ghosts D) where
  -- the file has two pages with nothing in them, which are the ones kept last, and the pager is tied to it
  pub record IsCreated (p : Paged D) : Type 0 where
    pub empty : IsEmptyFile (committed d p)
    pub tied : IsTied d p
    pub kept : KeepsMap d p (committed d p)

  -- The content is a file of the committed pages, and the pager is tied to it. Of a file of version 2 they are the ones kept last; of one
  -- of version 1 the disk lacks page 0 of version 2.
  pub record IsOpened (content : Content) (p : Paged D) : Type 0 where
    pub stores : IsFileOfPages content (committed d p)
    pub tied : IsTied d p
    pub second : GivesMap (committed d p) content → (p.is_header_changed ≡ false) × KeepsMap d p (committed d p)
    pub first : StoresFirst content (committed d p) → p.is_header_changed ≡ true
