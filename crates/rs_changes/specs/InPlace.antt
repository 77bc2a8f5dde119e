-- What a change of one table makes of a file's parts, before it is completed.
use Rattle.std.specs.Prelude.{◌≡◌, ◌+◌, ◌++◌, ◌∷◌, ℕ, IfOk, List, Result, length}
use Rattle.rs_file.specs.Contents.{Contents, TableContents}
use Rattle.rs_file.specs.declared.opened.OpenedFile.{OpenedFile}
use Rattle.rs_file_parts.specs.Parts.{Makes}
use Rattle.rs_pages.specs.PageMap.{PageMap}
use Rattle.rs_pages.specs.declared.pages.Pages.{Ghosts}
use Rattle.rs_refusal.specs.declared.refusal.Refusal.{Refusal}
use Rattle.rs_table_changes.specs.Changes.{ThenCleared}
use Rattle.rs_versioned.specs.Events.{Event}

-- the events of the table at this place have changed so, then some are gone that no version from the level on sees, and all else stays
pub record ChangesThenCleared (place level : ℕ) (change : List Event → List Event → Type 0) (old now : Contents) : Type 0 where
  pub before : List TableContents
  pub table : TableContents
  pub next : TableContents
  pub after : List TableContents
  pub long : length before ≡ place
  pub were : old.tables ≡ before ++ table ∷ after
  pub are : now ≡ record old { tables = before ++ next ∷ after }
  pub types : next.types ≡ table.types
  pub changed : ThenCleared level table.types change table.events next.events

-- of whatever contents lie there up to the version that was accepted last, they have changed so, up to the next one
abbrev pub MakesAt : PageMap → PageMap → OpenedFile → OpenedFile → ℕ → ℕ → (List Event → List Event → Type 0) → Type 0
MakesAt old new was is place level change = Makes old new was is was.accepted (was.accepted + 1) (ChangesThenCleared place level change)

-- so it is on the pages of an honest disk, by the count that is answered
abbrev pub MakesBy : {P : Type 0} → Ghosts P → OpenedFile → OpenedFile → ℕ → ℕ → (ℕ → List Event → List Event → Type 0) → Result ℕ Refusal → P → P → Type 0
MakesBy pages was is place level change result old new = pages.is_tied old
    → IfOk result (λ count. MakesAt (pages.store old).map (pages.store new).map was is place level (change count))
