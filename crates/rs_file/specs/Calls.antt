-- What the calls that look at a file answer, and why they are refused.
use Rattle.std.specs.Prelude.{◌≡◌, ◌≢◌, ◌⊎◌, ◌≤◌, ℕ, Err, Result, IfErr, IfOk, OnOk, Vec, length}
use Rattle.std.specs.declared.alloc.Global.{Global}
use Rattle.rs_refusal.specs.declared.refusal.Refusal.{Refusal}
use Rattle.rs_refusal.specs.declared.refusal.Refusal.TheVariants as refusal
use Rattle.rs_pages.specs.PageMap.{PageMap, IsEmptyFile}
use Rattle.rs_pages.specs.declared.pages.Pages.{Ghosts}
use Rattle.rs_file.specs.Contents.{HoldsAll}
use Rattle.rs_file.specs.Creating.{no_contents}
use Rattle.rs_file.specs.FreePages.{HasNoFreshFreeList, ReachesFree}
use Rattle.rs_file.specs.Opening.{HoldsNothing, LoadsContents}
use Rattle.rs_file.specs.declared.opened.OpenedFile.{OpenedFile}

-- the file holds the contents that are answered, and where it is damaged, it holds none
pub record IsLoaded (map : PageMap) (result : Result OpenedFile Refusal) : Type 0 where
  pub loads : IfOk result (LoadsContents map)
  pub damaged : result ≡ Err refusal.DamagedFile → HoldsNothing map

-- a free list was reached, none of whose pages was reached before, and where it is damaged, there is none; pages are told by how
-- often they were reached before and after it
pub record IsReached (map : PageMap) (before after : ℕ → ℕ) (result : Result (Unit {0}) Refusal) : Type 0 where
  pub reaches : OnOk result (ReachesFree map before after)
  pub damaged : result ≡ Err refusal.DamagedFile → HasNoFreshFreeList map before

-- so it is on the pages of an honest disk
abbrev pub Loads : {P : Type 0} → Ghosts P → Result OpenedFile Refusal → P → Type 0
Loads pages result old = pages.is_tied old → IsLoaded (pages.store old).map result

abbrev pub Reaches : {P : Type 0} → Ghosts P → (ℕ → ℕ) → (ℕ → ℕ) → Result (Unit {0}) Refusal → P → Type 0
Reaches pages before after result old = pages.is_tied old → IsReached (pages.store old).map before after result

-- a file in which there are no definitions holds that now, in three pages, one of them that of the definitions, and is not found
-- damaged
pub record IsCreated (new : PageMap) (result : Result (Vec ℕ Global) Refusal) : Type 0 where
  pub holds : IfOk result (λ numbers. HoldsAll new (no_contents numbers.items))
  pub one : IfOk result (λ numbers. length numbers.items ≡ 1)
  pub few : OnOk result (new.fields.pages ≤ 3)
  pub sound : result ≢ Err refusal.DamagedFile

-- so it is of an empty file on the pages of an honest disk
abbrev pub Creates : {P : Type 0} → Ghosts P → Result (Vec ℕ Global) Refusal → P → P → Type 0
Creates pages result old new = pages.is_tied old → IsEmptyFile (pages.store old).map → IsCreated (pages.store new).map result

-- why a file that is looked at is refused
abbrev pub RefusesToLoad : {T : Type 0} → Result T Refusal → Type 0
RefusesToLoad result = IfErr result (λ why. (why ≡ refusal.OutOfMemory) ⊎ (why ≡ refusal.Disk) ⊎ (why ≡ refusal.DamagedFile))

-- and a free list
abbrev pub RefusesToReach : Result (Unit {0}) Refusal → Type 0
RefusesToReach result = IfErr result (λ why. (why ≡ refusal.Disk) ⊎ (why ≡ refusal.DamagedFile))
