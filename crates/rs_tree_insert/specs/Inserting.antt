-- What a cell that is put into a part of a tree makes of it.
use Rattle.std.specs.Prelude.{◌≡◌, ◌≤◌, ℕ, true, false, Some, List, [], ◌∷◌, ◌++◌, Contains, map, take, drop, slice_get}
use Rattle.std.specs.List.{AllByRecursion, AllZip}
use Rattle.rs_page.specs.declared.header.PageKind.TheVariants as kind
use Rattle.rs_pages.specs.PageMap.{PageMap, SamePages}
use Rattle.rs_records.specs.Order.{Ascends}
use Rattle.rs_page_owners.specs.Counts.{◌&◌}
use Rattle.rs_page_owners.specs.Owners.{Shares}
use Rattle.rs_tree.specs.Cells.{with_cell}
use Rattle.rs_records.specs.Records.{records}
use Rattle.rs_tree.specs.Content.{content}
use Rattle.rs_tree.specs.Form.{Form, child_bytes, entry_width}
use Rattle.rs_tree.specs.Shape.{Shape, Lies, page_of, cells_of, uses}
use Rattle.rs_tree.specs.Walking.{IsPart}
use Rattle.rs_tree_edit.specs.Editing.{AddsPage}
use Rattle.rs_tree_edit.specs.Parts.{TakesPlace, SaysPart}
use Rattle.rs_tree_insert.specs.Writing.{PutsRecords, is_found}
use Rattle.rs_tree_insert.specs.declared.answer.Put.{Put}
use Rattle.rs_tree_insert.specs.declared.answer.Put.TheVariants.{Found, Placed, Kept, Split}

-- the pages at the tops of what is there afterwards
abbrev pub tops : ℕ → Put → List ℕ
tops number Found = number ∷ []
tops number Placed = number ∷ []
tops number Kept = number ∷ []
tops number (Split other) = number ∷ other ∷ []

-- what is said of these cells among others is said of the other cells in their place, and both begin with the same cell
pub record Exchanges (form : Form) (cells others : List (List ℕ)) : Type 0 where
  pub says : (before after : List (List ℕ)) (bytes : List ℕ) → form.says bytes (before ++ (cells ++ after)) → form.says bytes (before ++ (others ++ after))
  pub least : slice_get others 0 ≡ slice_get cells 0

-- where a part of a tree stands there whose pages are shared, parts with the cell take its place
pub record PutsBelow (form : Form) (old new : PageMap) (number : ℕ) (cell : List ℕ) (answer : Put) : Type 0 where
  pub each : (height : ℕ) (shape : Shape height) (others : ℕ → ℕ) → IsPart form old number height shape → Ascends (cells_of height shape)
      → Shares old (uses height shape & others) → TakesPlace form old new height (uses height shape) (tops number answer) (with_cell cell (cells_of height shape))
  pub kept : answer ≡ Kept → (height : ℕ) (shape : Shape height) (others : ℕ → ℕ) → IsPart form old number height shape → Ascends (cells_of height shape)
      → Shares old (uses height shape & others) → Exchanges form (cells_of height shape) (with_cell cell (cells_of height shape))

-- whether the cell was there
pub record TellsBelow (form : Form) (pages : PageMap) (number : ℕ) (cell : List ℕ) (answer : Put) : Type 0 where
  pub found : is_found answer ≡ true → (height : ℕ) (shape : Shape height) → IsPart form pages number height shape → Ascends (cells_of height shape) → Contains (cells_of height shape) cell
  pub new : is_found answer ≡ false → (height : ℕ) (shape : Shape height) → IsPart form pages number height shape → Ascends (cells_of height shape) → Contains (cells_of height shape) cell → ⊥

-- no part of so few levels stands there whose pages are shared
pub record HasNoShared (form : Form) (pages : PageMap) (number levels : ℕ) : Type 0 where
  pub none : (height : ℕ) (shape : Shape height) (others : ℕ → ℕ) → IsPart form pages number height shape → Ascends (cells_of height shape) → height ≤ levels
      → Shares pages (uses height shape & others) → ⊥

-- no parts have these pages at their tops
pub record HasNoTops (form : Form) (pages : PageMap) (numbers : List ℕ) : Type 0 where
  pub none : (height : ℕ) (parts : List (Shape height)) → map (page_of height) parts ≡ numbers → AllByRecursion (Lies form pages height) parts → ⊥

-- the entries say the parts with these pages at their tops, whichever they are
pub record SaysTops (form : Form) (pages : PageMap) (numbers : List ℕ) (entries : List (List ℕ)) : Type 0 where
  pub each : AllZip (λ number entry. SaysPart form pages number entry) numbers entries

-- the page above has the one entry already; and the cells that it says are exchanged with each other
pub record LeavesEntry (form : Form) (mid new : PageMap) (page : List ℕ) (count at : ℕ) (entries : List (List ℕ)) : Type 0 where
  pub entry : List ℕ
  pub stays : SamePages new mid
  pub there : slice_get (records count (entry_width form) (content page)) at ≡ Some entry
  pub one : entries ≡ entry ∷ []
  pub exchange : (cells others : List (List ℕ)) → form.says (take form.summary (drop child_bytes entry)) cells → form.says (take form.summary (drop child_bytes entry)) others
      → (before after : List (List ℕ)) (bytes : List ℕ) → form.says bytes (before ++ (cells ++ after)) → form.says bytes (before ++ (others ++ after))

-- the entries of these pages are written into the page above, or it has them already
pub record WritesAbove (form : Form) (old new : PageMap) (number : ℕ) (page : List ℕ) (count at : ℕ) (numbers : List ℕ) (answer : Put) : Type 0 where
  pub mid : PageMap
  pub same : SamePages mid old
  pub entries : List (List ℕ)
  pub says : SaysTops form old numbers entries
  pub puts : (answer ≡ Kept → ⊥) → PutsRecords mid new number page kind.Inner (entry_width form) count at 1 entries answer
  pub kept : answer ≡ Kept → LeavesEntry form mid new page count at entries

-- the entries of these pages are written into a new page
pub record AddsAbove (form : Form) (old new : PageMap) (root : ℕ) (numbers : List ℕ) : Type 0 where
  pub mid : PageMap
  pub same : SamePages mid old
  pub entries : List (List ℕ)
  pub says : SaysTops form old numbers entries
  pub adds : AddsPage mid new root kind.Inner (entry_width form) entries
