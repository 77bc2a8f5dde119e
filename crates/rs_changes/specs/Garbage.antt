-- How many records of what is open are dead, and how many are cleared.
use Rattle.std.specs.Prelude.{◌≡◌, ◌+◌, ℕ, IfOk, Result, Some, length, slice_get}
use Rattle.std.specs.List.{sum_by}
use Rattle.rs_change_laws.specs.Clearing.{ClearsFile}
use Rattle.rs_file.specs.declared.opened.OpenedFile.{OpenedFile}
use Rattle.rs_file.specs.declared.opened.OpenedTable.{OpenedTable}
use Rattle.rs_pages.specs.declared.pages.Pages.{Ghosts}
use Rattle.rs_refusal.specs.declared.refusal.Refusal.{Refusal}

-- how many records of a table are dead and not cleared
abbrev pub dead_of : OpenedTable → ℕ
dead_of table = length table.records.working.dead

-- of all tables and of the referents
abbrev pub garbage_of : OpenedFile → ℕ
garbage_of file = length file.referents.working.dead + sum_by dead_of file.tables.items

-- as many more records are dead as there are more of the table at this place
pub record GrowsAt (place : ℕ) (was is : OpenedFile) : Type 0 where
  pub each : (one now : OpenedTable) → slice_get was.tables.items place ≡ Some one → slice_get is.tables.items place ≡ Some now
      → garbage_of is + dead_of one ≡ garbage_of was + dead_of now

-- on the pages of an honest disk 64 records are cleared, or all that may be, and it is told how many
abbrev pub Clears : {P : Type 0} → Ghosts P → ℕ → OpenedFile → OpenedFile → Result ℕ Refusal → P → P → Type 0
Clears pages oldest was is result old new = pages.is_tied old
    → IfOk result (λ gone. ClearsFile oldest 64 gone (pages.store old).map (pages.store new).map was is)
