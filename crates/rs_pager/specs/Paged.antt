-- A pager as one value.
use Rattle.std.specs.Prelude.{◌≡◌, ◌≤◌, ◌<◌, ℕ, Bool, true, false, Some, None, IsSome, List}
use Rattle.rs_page.specs.declared.file_header.FileHeader.{FileHeader}
use Rattle.rs_pages.specs.Held.{HeldPage}
use Rattle.rs_pages.specs.declared.pages.TheConstants.{GREATEST_LIMIT}
use Rattle.rs_page_cache.specs.Changes.{Changes, held_at}
use Rattle.rs_page_cache.specs.Clean.{Clean}
use Rattle.rs_page_copies.specs.Listed.{Checkpoint}
use Rattle.rs_journal.specs.declared.stage.Stage.{Stage}
use Rattle.rs_journal.specs.declared.stage.Stage.TheVariants.{Fresh}

-- the disk, the greatest number of pages, the changed pages and the clean ones that are held, the committed and the working
-- fields of page 0, whether the disk lacks the committed ones, whether changes are begun, how often the file was full, and
-- the checkpoint that is under way
pub record Paged (D : Type 0) : Type 0 where
  pub disk : D
  pub limit : ℕ
  pub changes : Changes
  pub clean : Clean
  pub committed_fields : FileHeader
  pub working : FileHeader
  pub is_header_changed : Bool
  pub is_begun : Bool
  pub full_refusals : ℕ
  pub under_way : Checkpoint

-- what is held of the page with this number as a change
abbrev pub held : {D : Type 0} → Paged D → ℕ → HeldPage
held p number = held_at p.changes number

-- the limit is kept; only pages of the file are held; each page past the committed ones has a working copy; and
-- while no changes are begun, the working pages are the committed ones. Changes are begun while no checkpoint is under way
pub record IsSound (limit : ℕ) (changes : Changes) (committed_fields working : FileHeader) (is_begun : Bool) (stage : Stage) : Type 0 where
  pub directory : 2 ≤ committed_fields.pages
  pub kept_room : committed_fields.pages ≤ working.pages
  pub within : working.pages ≤ limit
  pub limited : limit ≤ GREATEST_LIMIT
  pub committed_inside : (number : ℕ) (page : List ℕ) → (held_at changes number).committed ≡ Some page
      → (0 < number) × (number < committed_fields.pages)
  pub copied_inside : (number : ℕ) (page : List ℕ) → (held_at changes number).copy ≡ Some page
      → (0 < number) × (number < working.pages)
  pub fresh : (number : ℕ) → committed_fields.pages ≤ number → number < working.pages → IsSome (held_at changes number).copy
  pub same : is_begun ≡ false → working ≡ committed_fields
  pub no_copies : is_begun ≡ false → (number : ℕ) → (held_at changes number).copy ≡ None
  pub begun_fresh : is_begun ≡ true → stage ≡ Fresh
