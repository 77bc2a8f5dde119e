-- What the calls of a page store answer.
use Rattle.std.specs.Prelude.{◌≡◌, ◌≢◌, ◌⊎◌, ◌<◌, ◌≤◌, ◌+◌, ℕ, None, Some, false, List, length, IfSome}
use Rattle.rs_refusal.specs.declared.refusal.Refusal.{Refusal}
use Rattle.rs_refusal.specs.declared.refusal.Refusal.TheVariants as refusal
use Rattle.rs_refusal.specs.Counts.{counted_on}
use Rattle.rs_page.specs.declared.page.TheConstants.{PAGE_SIZE}
use Rattle.rs_page.specs.PageBytes.{is_free, IsFit, IsBlank}
use Rattle.rs_page.specs.declared.header.PageKind.{PageKind}
use Rattle.rs_page.specs.declared.header.PageKind.TheVariants.{Free}
use Rattle.rs_pages.specs.Held.{held_change}
use Rattle.rs_pages.specs.PageMap.{in_use, HasNoFit, with_catalogue}
use Rattle.rs_pages.specs.FreeList.{Allocates, Releases, TakesFree, TakesLast, IsFreeList}
use Rattle.rs_pages.specs.Store.{Store, KeepsPages, KeepsCounts, HoldsCopy, CountsFailure}

-- the page that is lent is the working page with this number: a change as it was written, else a page that fits
pub record Lends (tied : Type 0) (old : Store) (number : ℕ) (page : List ℕ) : Type 0 where
  pub after : 0 < number
  pub below : number < old.map.fields.pages
  pub size : length page ≡ PAGE_SIZE
  pub bytes : tied → old.map.page number ≡ Some page
  pub in_use : is_free page ≡ false
  pub held : IfSome (held_change (old.held number)) (λ held. page ≡ held)
  pub fits : held_change (old.held number) ≡ None → IsFit page number old.map.fields.pages

-- a change in use is held of the page with this number
pub record HoldsUsed (old : Store) (number : ℕ) : Type 0 where
  pub page : List ℕ
  pub held : held_change (old.held number) ≡ Some page
  pub in_use : is_free page ≡ false

-- why a page is not lent: a call of the disk failed, or no page in use with this number fits
pub record RefusesToLend (tied : Type 0) (old : Store) (number : ℕ) (why : Refusal) : Type 0 where
  pub cause : (why ≡ refusal.Disk) ⊎ (why ≡ refusal.DamagedFile)
  pub damaged : tied → why ≡ refusal.DamagedFile → HasNoFit old.map number
  pub not_held : HoldsUsed old number → ⊥

-- why a page is not lent to be changed: there is no memory for its copy, or it isn't lent at all
pub record RefusesToEdit (tied : Type 0) (old : Store) (number : ℕ) (why : Refusal) : Type 0 where
  pub cause : (why ≡ refusal.OutOfMemory) ⊎ (why ≡ refusal.Disk) ⊎ (why ≡ refusal.DamagedFile)
  pub damaged : tied → why ≡ refusal.DamagedFile → HasNoFit old.map number
  pub held : HoldsUsed old number → why ≡ refusal.OutOfMemory
  pub copied : HoldsUsed old number → (old.held number).copy ≡ None

-- why a call that changes pages is refused: want of memory, a call of the disk that failed, a full file, a damaged one
pub record Wants (damaged full : Type 0) (why : Refusal) (old new : Store) : Type 0 where
  pub cause : (why ≡ refusal.OutOfMemory) ⊎ (why ≡ refusal.Disk) ⊎ ((why ≡ refusal.FileFull) × full)
      ⊎ ((why ≡ refusal.DamagedFile) × damaged)
  pub count : CountsFailure why old new

-- as many pages as there may be are in the file, none of them free, and the refusal is counted
pub record IsFull (old new : Store) : Type 0 where
  pub at_limit : old.limit ≤ old.map.fields.pages
  pub none_free : old.map.fields.first_free ≡ 0
  pub counted : new.full_refusals ≡ counted_on old.full_refusals

-- a page of this kind, with nothing in it, has come into use under a number that was not in use
pub record AllocatesPage (tied : Type 0) (kind : PageKind) (number : ℕ) (old new : Store) : Type 0 where
  pub allocates : tied → Allocates kind old.map new.map number
  pub fields : ((next : ℕ) × TakesFree old.map.fields new.map.fields number next) ⊎ TakesLast old.map.fields new.map.fields number
  pub fresh : tied → in_use old.map number ≡ None
  pub not_held : HoldsUsed old number → ⊥
  pub after : 1 < number
  pub below : number < new.map.fields.pages
  pub no_fewer : old.map.fields.pages ≤ new.map.fields.pages
  pub within : new.map.fields.pages ≤ old.limit
  pub page : List ℕ
  pub blank : IsBlank page kind number 0
  pub held : HoldsCopy number page old new
  pub counts : KeepsCounts old new
  pub failures : new.failures ≡ old.failures
  pub full : new.full_refusals ≡ old.full_refusals

-- no page has come into use, and nothing has changed but which clean pages are held, and that a full file is counted
pub record RefusesPage (tied : Type 0) (why : Refusal) (old new : Store) : Type 0 where
  pub keeps : KeepsPages tied old new
  pub counts : KeepsCounts old new
  pub full : why ≢ refusal.FileFull → new.full_refusals ≡ old.full_refusals
  pub wants : Wants (tied → (free : List ℕ) → IsFreeList old.map free → ⊥) (IsFull old new) why old new

-- the page, which was in use, is the first of the free list now
pub record ReleasesPage (tied : Type 0) (number : ℕ) (old new : Store) : Type 0 where
  pub was : List ℕ
  pub lends : Lends tied old number was
  pub past : 1 < number
  pub releases : tied → Releases old.map new.map number
  pub fields : new.map.fields ≡ record old.map.fields { first_free = number; free_pages = old.map.fields.free_pages + 1 }
  pub page : List ℕ
  pub blank : IsBlank page Free number old.map.fields.first_free
  pub held : HoldsCopy number page old new
  pub counts : KeepsCounts old new
  pub failures : new.failures ≡ old.failures
  pub full : new.full_refusals ≡ old.full_refusals

-- why a page is not released: as why it isn't lent, or it is page 1, or the free list can't be longer; a change in use
-- is refused for want of memory alone
pub record RefusesToRelease (tied : Type 0) (number : ℕ) (why : Refusal) (old new : Store) : Type 0 where
  pub wants : Wants ((tied → HasNoFit old.map number) ⊎ (number ≡ 1) ⊎ (old.map.fields.pages ≤ old.map.fields.free_pages)) ⊥ why old new
  pub held : HoldsUsed old number → 1 < number → old.map.fields.free_pages < old.map.fields.pages → why ≡ refusal.OutOfMemory

-- the catalogue begins at this page and has so many bytes, and nothing else has changed
pub record SetsCatalogue (tied : Type 0) (first size : ℕ) (old new : Store) : Type 0 where
  pub fields : new.map.fields ≡ with_catalogue first size old.map.fields
  pub pages : tied → (number : ℕ) → new.map.page number ≡ old.map.page number
  pub held : (number : ℕ) → new.held number ≡ old.held number
  pub counts : KeepsCounts old new
  pub failures : new.failures ≡ old.failures
  pub full : new.full_refusals ≡ old.full_refusals
