-- What the calls of an index leave of the pages, do, and answer.
use Rattle.std.specs.Prelude.{◌≡◌, ℕ, List, Result, IfOk, OnOk, OnErr}
use Rattle.rs_refusal.specs.declared.refusal.Refusal.{Refusal}
use Rattle.rs_pages.specs.declared.pages.Pages.{Ghosts}
use Rattle.rs_page_owners.specs.Calls as owners
use Rattle.rs_records.specs.Listed.{listed}
use Rattle.rs_records.specs.declared.cells.Cells.{Cells}
use Rattle.rs_tree.specs.Calls as tree
use Rattle.rs_tree_whole.specs.Calls as whole
use Rattle.rs_value.specs.Row.{Datum}
use Rattle.rs_attr.specs.Entries.{ChangesIndex, HoldsNoIndex, index_form}
use Rattle.rs_attr.specs.Finding.{FindsEntries}
use Rattle.rs_attr.specs.Tables.{IndexState}

-- the field and the root at the last commit stay; after a refusal the index is as it was
pub record KeepsIndex {T : Type 0} (result : Result T Refusal) (was is : IndexState) : Type 0 where
  pub field : is.field ≡ was.field
  pub committed : is.committed ≡ was.committed
  pub stays : OnErr result (is ≡ was)

module _ {P : Type 0} (pages : Ghosts P) (was : IndexState) where
  -- what a call that changes the index leaves on any disk: 94 comes only where no entries lie there with pages of their own
  abbrev pub Leaves : {T : Type 0} → Result T Refusal → P → P → Type 0
  Leaves result old new = owners.Leaves pages (HoldsNoIndex was.field (pages.store old).map was.working) result old new

  -- why a call that reads the index is refused: 94 only where no tree stands there
  abbrev pub RefusesReading : {T : Type 0} → Result T Refusal → P → P → Type 0
  RefusesReading result old new = tree.RefusesReading pages (index_form was.field) was.working result old new

  -- what the calls do and answer on the pages of an honest disk: the entries are those of changed cells
  abbrev pub Edits : IndexState → (List (List ℕ) → List (List ℕ)) → Result (Unit {0}) Refusal → P → P → Type 0
  Edits is change result old new = pages.is_tied old
      → OnOk result (ChangesIndex was.field (pages.store old).map (pages.store new).map was.working is.working change)

  abbrev pub FindsWith : Datum → List ℕ → List ℕ → Result (Cells × ℕ) Refusal → P → Type 0
  FindsWith datum from to result old = pages.is_tied old
      → IfOk result (λ found. FindsEntries was.field (pages.store old).map was.working datum from to (listed found.0) found.1)

  abbrev pub Checks : (ℕ → ℕ) → (ℕ → ℕ) → Result ℕ Refusal → P → Type 0
  Checks before after result old = whole.Checks pages (index_form was.field) was.working before after result old
