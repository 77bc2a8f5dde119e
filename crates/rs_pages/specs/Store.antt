-- What a page store is to its clients, and what its calls keep.
use Rattle.std.specs.Prelude.{◌≡◌, ◌≢◌, ◌≤◌, ℕ, Bool, List}
use Rattle.rs_refusal.specs.declared.refusal.Refusal.{Refusal}
use Rattle.rs_refusal.specs.declared.refusal.Refusal.TheVariants as refusal
use Rattle.rs_refusal.specs.Counts.{counted_on}
use Rattle.rs_pages.specs.Held.{HeldPage, with_copy}
use Rattle.rs_pages.specs.PageMap.{PageMap, SamePages, ReplacesPage}

-- the working pages, what is held of each as a change, the greatest number of pages, how many calls of the disk have
-- failed, how often a page was refused because the file is full, and whether changes are begun. Of the map only the
-- fields are known on any disk: the pages are those of a store that is tied to an honest disk
pub record Store : Type 0 where
  pub map : PageMap
  pub held : ℕ → HeldPage
  pub limit : ℕ
  pub failures : ℕ
  pub full_refusals : ℕ
  pub is_begun : Bool

-- limit and begin stay, and the refusals of a full file don't fall
pub record KeepsCounts (old new : Store) : Type 0 where
  pub limit : new.limit ≡ old.limit
  pub begun : new.is_begun ≡ old.is_begun
  pub full_refusals : old.full_refusals ≤ new.full_refusals

-- a refusal that says that the disk failed counts one failure more, and no other does
pub record CountsFailure (why : Refusal) (old new : Store) : Type 0 where
  pub disk : why ≡ refusal.Disk → new.failures ≡ counted_on old.failures
  pub other : why ≢ refusal.Disk → new.failures ≡ old.failures

-- no page, no change and no field is another
pub record KeepsPages (tied : Type 0) (old new : Store) : Type 0 where
  pub pages : tied → SamePages new.map old.map
  pub fields : new.map.fields ≡ old.map.fields
  pub held : (number : ℕ) → new.held number ≡ old.held number

-- nothing has changed but which clean pages are held
pub record Rests (tied : Type 0) (old new : Store) : Type 0 where
  pub keeps : KeepsPages tied old new
  pub counts : KeepsCounts old new
  pub full : new.full_refusals ≡ old.full_refusals

-- of all that is held, the working copy of one page alone is another: these bytes
pub record HoldsCopy (number : ℕ) (page : List ℕ) (old new : Store) : Type 0 where
  pub there : new.held number ≡ with_copy page (old.held number)
  pub others : (other : ℕ) → other ≢ number → new.held other ≡ old.held other

-- the working page with this number has these bytes now, and nothing else has changed but which clean pages are held
pub record Edits (tied : Type 0) (number : ℕ) (page : List ℕ) (old new : Store) : Type 0 where
  pub replaces : tied → ReplacesPage number page old.map new.map
  pub fields : new.map.fields ≡ old.map.fields
  pub held : HoldsCopy number page old new
  pub counts : KeepsCounts old new
  pub full : new.full_refusals ≡ old.full_refusals
