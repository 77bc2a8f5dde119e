-- What the search for overlapping records answers, of the pages that it is lent.
use Rattle.std.specs.Prelude.{ℕ, Result, IfOk}
use Rattle.rs_refusal.specs.declared.refusal.Refusal.{Refusal}
use Rattle.rs_pages.specs.declared.pages.Pages.{Ghosts}
use Rattle.rs_records.specs.Listed.{listed}
use Rattle.rs_records.specs.declared.cells.Cells.{Cells}
use Rattle.rs_interval.specs.Finding.{FindsOverlapping}

-- just the records of a route that begin before b and end after a, and how many pages were read, on those of an honest disk
abbrev pub Overlaps : {P : Type 0} → Ghosts P → (width root route a b : ℕ) → Result (Cells × ℕ) Refusal → P → Type 0
Overlaps pages width root route a b result old =
    pages.is_tied old → IfOk result (λ found. FindsOverlapping width (pages.store old).map root route a b (listed found.0) found.1)
