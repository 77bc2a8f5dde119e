-- What the functions of this crate hand to one another: what a step leaves of a table's indexes, and what is entered into an
-- index part by part.
use Rattle.std.specs.Prelude.{ℕ, List, ◌++◌, Result, OnOk}
use Rattle.rs_attr.specs.declared.attr_index.Change.{Change}
use Rattle.rs_attr.specs.declared.attr_index.Change.TheVariants as change
use Rattle.rs_attr.specs.Entries.{AreCells, BecomesIndex, Field, HoldsIndex}
use Rattle.rs_attr.specs.Tables.{HoldIndexes, IndexState, all_of}
use Rattle.rs_interval.specs.Finding.{event_form}
use Rattle.rs_page_owners.specs.Calls as owners
use Rattle.rs_page_owners.specs.Counts.{◌&◌}
use Rattle.rs_page_owners.specs.Owners.{Moves, Shares}
use Rattle.rs_pages.specs.PageMap.{PageMap}
use Rattle.rs_pages.specs.declared.pages.Pages.{Ghosts}
use Rattle.rs_refusal.specs.declared.refusal.Refusal.{Refusal}
use Rattle.rs_tree.specs.Cells.{cells_below, with_cell, without_cell}
use Rattle.rs_tree.specs.Tree.{IsTree}

-- each index has the entries of other cells now, and their pages have moved beside those of any other owners
pub record BecomeIndexes (old new : PageMap) (before : ℕ → ℕ) (indexes : List IndexState) (cells : List (List ℕ)) : Type 0 where
  pub afters : List (ℕ → ℕ)
  pub hold : HoldIndexes new indexes cells afters
  pub moves : Moves old new before (all_of afters)

-- where indexes of some cells lie there, whose pages are shared with other owners and a free list, those of changed cells take
-- their place
pub record ChangeIndexes (old new : PageMap) (were are : List IndexState) (width : ℕ) (change : List (List ℕ) → List (List ℕ)) : Type 0 where
  pub each : (cells : List (List ℕ)) (uses : List (ℕ → ℕ)) (others : ℕ → ℕ) → AreCells width cells → HoldIndexes old were cells uses
      → Shares old (all_of uses & others) → BecomeIndexes old new (all_of uses) are (change cells)

-- no indexes of cells of this width lie there, with pages that are shared with other owners and a free list
pub record HoldNoIndexes (pages : PageMap) (indexes : List IndexState) (width : ℕ) : Type 0 where
  pub none : (cells : List (List ℕ)) (uses : List (ℕ → ℕ)) (others : ℕ → ℕ) → AreCells width cells → HoldIndexes pages indexes cells uses
      → Shares pages (all_of uses & others) → ⊥

-- what a change makes of the cells
abbrev pub changed : Change → List ℕ → List (List ℕ) → List (List ℕ)
changed change.Put = with_cell
changed change.Take = without_cell

-- what a step on the indexes leaves on any disk, and what it does on the pages of an honest one
abbrev pub LeavesEach : {P T : Type 0} → Ghosts P → List IndexState → ℕ → Result T Refusal → P → P → Type 0
LeavesEach pages were width result old new = owners.Leaves pages (HoldNoIndexes (pages.store old).map were width) result old new

abbrev pub ChangesEach : {P : Type 0} → Ghosts P → List IndexState → List IndexState → ℕ → (List (List ℕ) → List (List ℕ)) → Result (Unit {0}) Refusal → P → P → Type 0
ChangesEach pages were are width change result old new = pages.is_tied old
    → OnOk result (ChangeIndexes (pages.store old).map (pages.store new).map were are width change)

-- where a table's tree stands, and the index has the entries of its cells below one bound, it has those below another then
pub record Enters (field : Field) (old new : PageMap) (table root to : ℕ) (low high : List ℕ) : Type 0 where
  pub each : (cells : List (List ℕ)) (used uses others : ℕ → ℕ) → IsTree (event_form field.cell_width) old table cells used
      → HoldsIndex field old root (cells_below low cells) uses → Shares old (uses & (used & others))
      → BecomesIndex field old new to uses (cells_below high cells)

-- no table's tree stands there beside the index of its cells below the bound
pub record EntersNone (field : Field) (pages : PageMap) (table root : ℕ) (low : List ℕ) : Type 0 where
  pub none : (cells : List (List ℕ)) (used uses others : ℕ → ℕ) → IsTree (event_form field.cell_width) pages table cells used
      → HoldsIndex field pages root (cells_below low cells) uses → Shares pages (uses & (used & others)) → ⊥

-- where the index has the entries of some cells, and these come after them, it has the entries of these too then
pub record Appends (field : Field) (old new : PageMap) (root to : ℕ) (found : List (List ℕ)) : Type 0 where
  pub each : (before : List (List ℕ)) (uses others : ℕ → ℕ) → AreCells field.cell_width (before ++ found)
      → HoldsIndex field old root before uses → Shares old (uses & others) → BecomesIndex field old new to uses (before ++ found)

-- no index of some cells that these come after is there
pub record AppendsNone (field : Field) (pages : PageMap) (root : ℕ) (found : List (List ℕ)) : Type 0 where
  pub none : (before : List (List ℕ)) (uses others : ℕ → ℕ) → AreCells field.cell_width (before ++ found)
      → HoldsIndex field pages root before uses → Shares pages (uses & others) → ⊥
