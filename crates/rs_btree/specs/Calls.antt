-- What the calls of a tree answer, and what they do with the pages and the tree.
use Rattle.std.specs.Prelude.{◌≡◌, ◌↔◌, ℕ, Bool, List, [], Result, Contains, IfOk, IsTrue, OnOk, OnErr}
use Rattle.std.specs.List.{AllByRecursion}
use Rattle.rs_refusal.specs.declared.refusal.Refusal.{Refusal}
use Rattle.rs_pages.specs.PageMap.{PageMap}
use Rattle.rs_pages.specs.declared.pages.Pages.{Ghosts}
use Rattle.rs_records.specs.declared.cells.Cells.{Cells}
use Rattle.rs_tree.specs.Calls.{Changes}
use Rattle.rs_tree.specs.Calls as tree
use Rattle.rs_tree.specs.Form.{Form}
use Rattle.rs_tree.specs.Forms.{form}
use Rattle.rs_tree.specs.Tree.{IsTree}
use Rattle.rs_tree.specs.declared.summary.Summary.{Ghosts as Summaries}
use Rattle.rs_tree_insert.specs.Calls.{IsInserted}
use Rattle.rs_tree_remove.specs.Calls.{IsTakenOut, TellsOf}
use Rattle.rs_tree_whole.specs.Calls as whole
use Rattle.rs_btree.specs.Replacing.{Replaces}
use Rattle.rs_btree.specs.Rooted.{Rooted}

-- the other cell has the place of the one, and it is told whether the tree had that
pub record IsReplaced (form : Form) (old new : PageMap) (root to : ℕ) (one other : List ℕ) (found : Bool) : Type 0 where
  pub replaces : Replaces form old new root to one other
  pub tells : TellsOf form old root one found

-- the width of the cells stays; after a refusal the tree is as it was
pub record KeepsTree {T : Type 0} (result : Result T Refusal) (old new : Rooted) : Type 0 where
  pub width : new.width ≡ old.width
  pub stays : OnErr result (new ≡ old)

-- whichever tree stands there, it is told whether it has each of these cells
abbrev pub TellsIfHeld : Form → PageMap → ℕ → List (List ℕ) → Bool → Type 0
TellsIfHeld form map root cells found = (all : List (List ℕ)) (used : ℕ → ℕ) → IsTree form map root all used
    → (IsTrue found ↔ AllByRecursion (Contains all) cells)

module _ {P S : Type 0} (pages : Ghosts P) (summaries : Summaries S) (at : Rooted) where
  -- what a call that changes the tree leaves on any disk: 94 comes only where no tree stands there with pages of its own
  abbrev pub Leaves : {T : Type 0} → Result T Refusal → P → P → Type 0
  Leaves result old new = tree.LeavesTree pages (form summaries at.width) at.root result old new

  -- why a call that reads the tree is refused: 94 only where no tree stands there
  abbrev pub RefusesReading : {T : Type 0} → Result T Refusal → P → P → Type 0
  RefusesReading result old new = tree.RefusesReading pages (form summaries at.width) at.root result old new

  -- what the calls answer and do on the pages of an honest disk
  abbrev pub Ranges : List ℕ → List ℕ → Result Cells Refusal → P → Type 0
  Ranges low high result old = tree.Ranges pages (form summaries at.width) at.root low high result old

  abbrev pub Descends : List ℕ → List ℕ → (S → Bool → Type 0) → Result (Cells × ℕ) Refusal → P → Type 0
  Descends low high answers result old = tree.Descends pages summaries (form summaries at.width) at.root low high answers result old

  abbrev pub HoldsEach : List (List ℕ) → Result Bool Refusal → P → Type 0
  HoldsEach cells result old = pages.is_tied old → IfOk result (TellsIfHeld (form summaries at.width) (pages.store old).map at.root cells)

  abbrev pub Checks : (ℕ → ℕ) → (ℕ → ℕ) → Result ℕ Refusal → P → Type 0
  Checks before after result old = whole.Checks pages (form summaries at.width) at.root before after result old

  abbrev pub Inserts : Rooted → List ℕ → Result Bool Refusal → P → P → Type 0
  Inserts to cell result old new = pages.is_tied old
      → IfOk result (IsInserted (form summaries at.width) (pages.store old).map (pages.store new).map at.root to.root cell)

  abbrev pub Removes : Rooted → List ℕ → Result Bool Refusal → P → P → Type 0
  Removes to cell result old new = pages.is_tied old
      → IfOk result (IsTakenOut (form summaries at.width) (pages.store old).map (pages.store new).map at.root to.root cell)

  abbrev pub ReplacesOne : Rooted → List ℕ → List ℕ → Result Bool Refusal → P → P → Type 0
  ReplacesOne to one other result old new = pages.is_tied old
      → IfOk result (IsReplaced (form summaries at.width) (pages.store old).map (pages.store new).map at.root to.root one other)

  abbrev pub Clears : Rooted → Result (Unit {0}) Refusal → P → P → Type 0
  Clears to result old new = pages.is_tied old
      → OnOk result (Changes (form summaries at.width) (pages.store old).map (pages.store new).map at.root to.root (λ _. []))
