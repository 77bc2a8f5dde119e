-- What the steps that open a table with its indexes find.
use Rattle.std.specs.Prelude.{◌≡◌, ◌++◌, ℕ, Err, List, OnOk, Result}
use Rattle.rs_refusal.specs.declared.refusal.Refusal.{Refusal}
use Rattle.rs_refusal.specs.declared.refusal.Refusal.TheVariants as refusal
use Rattle.rs_pages.specs.PageMap.{PageMap}
use Rattle.rs_pages.specs.declared.pages.Pages.{Ghosts}
use Rattle.rs_attr.specs.Entries.{Field}
use Rattle.rs_attr.specs.Opening.{AreNotEntered, HasEntries, HaveAllEntries, LacksEntries, ReachesIndexes, ReachesNoIndexes}
use Rattle.rs_attr.specs.Tables.{IndexState}

-- trees of so many entries were reached for the indexes; 94 is answered only where there are none in pages that weren't reached before
pub record ReachesOn (pages : PageMap) (indexes : List IndexState) (count : ℕ) (before after : ℕ → ℕ) (result : Result (Unit {0}) Refusal) : Type 0 where
  pub reaches : OnOk result (ReachesIndexes pages indexes count before after)
  pub damaged : result ≡ Err refusal.DamagedFile → ReachesNoIndexes pages indexes count before

-- each of the cells has its entry in each index; 94 is answered only where the indexes are not those of cells that these are among
pub record ChecksOn (pages : PageMap) (indexes : List IndexState) (cells : List (List ℕ)) (result : Result (Unit {0}) Refusal) : Type 0 where
  pub entered : OnOk result (HaveAllEntries pages indexes cells)
  pub damaged : result ≡ Err refusal.DamagedFile → AreNotEntered pages indexes cells

-- where the cells that wait now have their entries in each index, so have those that waited before, and these; 94 is answered only where
-- the indexes are not those of cells that all of them are among
pub record GathersOn (pages : PageMap) (indexes : List IndexState) (waited wait cells : List (List ℕ)) (result : Result (Unit {0}) Refusal) : Type 0 where
  pub entered : OnOk result (HaveAllEntries pages indexes wait → HaveAllEntries pages indexes (waited ++ cells))
  pub damaged : result ≡ Err refusal.DamagedFile → AreNotEntered pages indexes (waited ++ cells)

-- each of the cells has its entry in this index; 94 is answered only where one has none
pub record LooksUpOn (field : Field) (pages : PageMap) (root : ℕ) (cells : List (List ℕ)) (result : Result (Unit {0}) Refusal) : Type 0 where
  pub entered : OnOk result (HasEntries field pages root cells)
  pub damaged : result ≡ Err refusal.DamagedFile → LacksEntries field pages root cells

-- so it is on the pages of an honest disk
module _ {P : Type 0} (pages : Ghosts P) where
  abbrev pub Reaches : List IndexState → ℕ → (ℕ → ℕ) → (ℕ → ℕ) → Result (Unit {0}) Refusal → P → Type 0
  Reaches indexes count before after result old = pages.is_tied old → ReachesOn (pages.store old).map indexes count before after result

  abbrev pub Checks : List IndexState → List (List ℕ) → Result (Unit {0}) Refusal → P → Type 0
  Checks indexes cells result old = pages.is_tied old → ChecksOn (pages.store old).map indexes cells result

  abbrev pub Gathers : List IndexState → List (List ℕ) → List (List ℕ) → List (List ℕ) → Result (Unit {0}) Refusal → P → Type 0
  Gathers indexes waited wait cells result old = pages.is_tied old → GathersOn (pages.store old).map indexes waited wait cells result

  abbrev pub LooksUp : IndexState → List (List ℕ) → Result (Unit {0}) Refusal → P → Type 0
  LooksUp index cells result old = pages.is_tied old → LooksUpOn index.field (pages.store old).map index.working cells result
