-- What the steps of a change leave, whatever cells are dead.
use Rattle.std.specs.Prelude.{◌≡◌, ◌↔◌, ◌≤◌, ◌+◌, ◌*◌, ℕ, Bool, false, IsTrue, List, Contains, [], ◌∷◌, ◌++◌, if◌then◌else◌}
use Rattle.rs_page.specs.declared.header.TheConstants.{PAGE_ROOM}
use Rattle.rs_page_owners.specs.Counts.{◌&◌}
use Rattle.rs_page_owners.specs.Owners.{Shares}
use Rattle.rs_pages.specs.PageMap.{PageMap, SamePages}
use Rattle.rs_tree.specs.Cells.{with_cell}
use Rattle.rs_tree.specs.Form.{Form}
use Rattle.rs_tree.specs.Tree.{IsTree}
use Rattle.rs_cell_versions.specs.Changes.{Ends, without_cells}
use Rattle.rs_cell_versions.specs.Version.{ended}
use Rattle.rs_cell_versions.specs.Versioned.{ChangesCells, HoldsNone, Standing}
use Rattle.rs_cell_versions.specs.declared.changing.Ended.{Ended}

-- a root, a count of living cells, and dead ones
abbrev pub standing : ℕ → ℕ → List (List ℕ) → Standing
standing root living dead = record { root = root; living = living; dead = dead }

-- a living cell has come among the others
pub record Adds (form : Form) (old new : PageMap) (root living to now : ℕ) (cell : List ℕ) : Type 0 where
  pub each : (dead : List (List ℕ)) → ChangesCells form old new (standing root living dead) (standing to now dead) (with_cell cell)

-- the cell is among the others now; it is told whether it was not there before, and how many live. Where it was there, no page has
-- changed
pub record PutsOne (form : Form) (old new : PageMap) (root living to : ℕ) (cell : List ℕ) (answer : Bool × ℕ) : Type 0 where
  pub adds : Adds form old new root living to answer.1 cell
  pub tells : (cells : List (List ℕ)) (used : ℕ → ℕ) → IsTree form old root cells used → (IsTrue answer.0 ↔ (Contains cells cell → ⊥))
  pub rests : answer.0 ≡ false → SamePages new old

-- with the cell that has died last, where there is one
abbrev pub with_last : Bool → List ℕ → List (List ℕ) → List (List ℕ)
with_last new cell dead = if new then dead ++ cell ∷ [] else dead

-- a living cell has ended, where it was one of them, and is dead where that is new
pub record EndsOne (form : Form) (old new : PageMap) (root living to now : ℕ) (is_new : Bool) (version : ℕ) (cell : List ℕ) : Type 0 where
  pub each : (dead : List (List ℕ)) → Ends form old new (standing root living dead) (standing to now (with_last is_new (ended version cell) dead)) version cell

-- the cell has ended; it is told whether it was there, how many live, and whether it is to be listed as dead
pub record TellsEnd (form : Form) (old new : PageMap) (root living to version : ℕ) (cell : List ℕ) (answer : Ended) : Type 0 where
  pub ends : EndsOne form old new root living to answer.living answer.listed version cell
  pub tells : (cells : List (List ℕ)) (used others : ℕ → ℕ) → IsTree form old root cells used → Shares old (used & others) → (IsTrue answer.found ↔ Contains cells cell)

-- the first of the dead are gone
pub record TakesOut (form : Form) (old new : PageMap) (root to : ℕ) (gone : List (List ℕ)) : Type 0 where
  pub each : (living : ℕ) (rest : List (List ℕ)) → ChangesCells form old new (standing root living (gone ++ rest)) (standing to living rest) (without_cells gone)

-- no cells stand there of which these are the first dead ones
pub record HoldsNoneFirst (form : Form) (pages : PageMap) (root : ℕ) (first : List (List ℕ)) : Type 0 where
  pub each : (living : ℕ) (rest : List (List ℕ)) → HoldsNone form pages (standing root living (first ++ rest))

-- cells of which three entries of an inner page fit it
pub record FitsPages (summary width : ℕ) : Type 0 where
  pub some : 20 ≤ width
  pub fits : 3 * (4 + summary + width) ≤ PAGE_ROOM
