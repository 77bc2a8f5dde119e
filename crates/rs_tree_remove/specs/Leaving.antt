-- What is left of a part of a tree.
use Rattle.std.specs.Prelude.{◌≡◌, ◌≤◌, ℕ, zero, suc, Some, List, [], ◌∷◌, Result, IfOk}
use Rattle.std.specs.List.{Contains}
use Rattle.rs_refusal.specs.declared.refusal.Refusal.{Refusal}
use Rattle.rs_page.specs.declared.header.PageKind.TheVariants as kind
use Rattle.rs_pages.specs.PageMap.{PageMap, SamePages}
use Rattle.rs_pages.specs.declared.pages.Pages.{Ghosts}
use Rattle.rs_records.specs.Order.{Ascends}
use Rattle.rs_page_owners.specs.Counts.{one_at, ◌&◌}
use Rattle.rs_page_owners.specs.Owners.{Shares, Moves}
use Rattle.rs_tree.specs.Cells.{without_cell}
use Rattle.rs_tree.specs.Content.{HasRecords}
use Rattle.rs_tree.specs.Form.{Form, entry_width}
use Rattle.rs_tree.specs.Shape.{Shape, Lies, page_of, cells_of, uses}
use Rattle.rs_tree.specs.Walking.{IsPart}
use Rattle.rs_tree_edit.specs.Parts.{TakesPlace}
use Rattle.rs_tree_remove.specs.declared.answer.Removed.{Removed}
use Rattle.rs_tree_remove.specs.declared.answer.Removed.TheVariants.{Missing, Kept, Gone, Single}

-- one part of two below the page is left, and the page has the bytes that it had
pub record LeavesOne (form : Form) (old new : PageMap) (height : ℕ) (before : ℕ → ℕ) (number top : ℕ) (cells : List (List ℕ)) : Type 0 where
  pub part : Shape height
  pub lies : Lies form new height part
  pub is : page_of height part ≡ top
  pub lists : cells_of height part ≡ cells
  pub page : List ℕ
  pub has : HasRecords page kind.Inner number 2 (entry_width form)
  pub was : old.page number ≡ Some page
  pub there : new.page number ≡ Some page
  pub moves : Moves old new before (one_at number & uses height part)

-- these cells are left, in a part of so many levels or as the answer says
abbrev pub IsLeft : Form → PageMap → PageMap → ℕ → (height : ℕ) → (ℕ → ℕ) → List (List ℕ) → Removed → Type 0
IsLeft form old new number height before cells Missing = ⊥
IsLeft form old new number height before cells Kept = TakesPlace form old new height before (number ∷ []) cells
IsLeft form old new number height before cells Gone = TakesPlace form old new height before [] cells
IsLeft form old new number zero before cells (Single top) = ⊥
IsLeft form old new number (suc height) before cells (Single top) = LeavesOne form old new height before number top cells

-- the cell is not among them, and nothing has changed
pub record IsMissing (old new : PageMap) (cell : List ℕ) (cells : List (List ℕ)) : Type 0 where
  pub none : Contains cells cell → ⊥
  pub same : SamePages new old

-- the cell was among them, and the others are left
pub record IsOut (form : Form) (old new : PageMap) (number height : ℕ) (before : ℕ → ℕ) (cell : List ℕ) (cells : List (List ℕ)) (answer : Removed) : Type 0 where
  pub some : Contains cells cell
  pub left : IsLeft form old new number height before (without_cell cell cells) answer

abbrev pub IsRemoved : Form → PageMap → PageMap → ℕ → (height : ℕ) → (ℕ → ℕ) → List ℕ → List (List ℕ) → Removed → Type 0
IsRemoved form old new number height before cell cells Missing = IsMissing old new cell cells
IsRemoved form old new number height before cell cells Kept = IsOut form old new number height before cell cells Kept
IsRemoved form old new number height before cell cells Gone = IsOut form old new number height before cell cells Gone
IsRemoved form old new number height before cell cells (Single top) = IsOut form old new number height before cell cells (Single top)

-- the cell is taken out of the part with this page at its top, whichever it is
pub record RemovesPart (form : Form) (old new : PageMap) (number : ℕ) (cell : List ℕ) (answer : Removed) : Type 0 where
  pub each : (height : ℕ) (shape : Shape height) (others : ℕ → ℕ) → IsPart form old number height shape → Ascends (cells_of height shape) → Shares old (uses height shape & others)
      → IsRemoved form old new number height (uses height shape) cell (cells_of height shape) answer

-- so it is on an honest disk, where the working page with this number has these bytes and the call is not refused
abbrev pub RemovesFrom : {P : Type 0} → Ghosts P → Form → ℕ → List ℕ → List ℕ → Result Removed Refusal → P → P → Type 0
RemovesFrom pages form number page cell result old new = pages.is_tied old → (pages.store old).map.page number ≡ Some page
    → IfOk result (RemovesPart form (pages.store old).map (pages.store new).map number cell)

-- no part of so few levels has this page at its top, and its pages to itself
pub record HasNoOwnPart (form : Form) (pages : PageMap) (number levels : ℕ) : Type 0 where
  pub none : (height : ℕ) (shape : Shape height) (others : ℕ → ℕ) → IsPart form pages number height shape → height ≤ levels → Ascends (cells_of height shape)
      → Shares pages (uses height shape & others) → ⊥
