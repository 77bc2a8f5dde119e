-- What the calls of a tree answer.
use Rattle.std.specs.Prelude.{◌≡◌, ◌⊎◌, ◌≤◌, ◌*◌, ◌+◌, ℕ, Bool, ◌||◌, List, length, filter, Result, IfOk, IfErr, OnOk}
use Rattle.rs_refusal.specs.declared.refusal.Refusal.{Refusal}
use Rattle.rs_refusal.specs.declared.refusal.Refusal.TheVariants as refusal
use Rattle.rs_pages.specs.PageMap.{PageMap}
use Rattle.rs_pages.specs.declared.pages.Pages.{Ghosts}
use Rattle.rs_records.specs.Listed.{listed}
use Rattle.rs_records.specs.declared.cells.Cells.{Cells}
use Rattle.rs_pages.specs.Store.{Store, CountsFailure}
use Rattle.rs_page_owners.specs.Calls.{Leaves}
use Rattle.rs_page_owners.specs.Counts.{◌&◌}
use Rattle.rs_page_owners.specs.Owners.{Shares, Moves}
use Rattle.rs_tree.specs.Asking.{Computes}
use Rattle.rs_tree.specs.Form.{Form}
use Rattle.rs_tree.specs.Tree.{IsTree, IsNoTree}
use Rattle.rs_tree.specs.declared.summary.Summary.{Ghosts as Summaries}
use Rattle.rs_tree.specs.Cells.{cells_within}
use Rattle.rs_tree.specs.Leading.{pages_leading}

-- why a call that reads a tree is refused: want of memory, a call of the disk that failed, or no tree stands there
pub record RefusesToRead (tied : Type 0) (form : Form) (root : ℕ) (why : Refusal) (old new : Store) : Type 0 where
  pub cause : (why ≡ refusal.OutOfMemory) ⊎ (why ≡ refusal.Disk) ⊎ ((why ≡ refusal.DamagedFile) × (tied → IsNoTree form old.map root))
  pub count : CountsFailure why old new

-- what was found: where a tree stands, just its cells within the bounds that pass the test. At least the root and each page
-- that leads to one of them was read, and no more pages than two for each level and as many more for each cell
pub record Finds (form : Form) (pages : PageMap) (root : ℕ) (low high : List ℕ) (passes : List ℕ → Bool) (found : List (List ℕ)) (reads : ℕ) : Type 0 where
  pub exact : (cells : List (List ℕ)) (used : ℕ → ℕ) → IsTree form pages root cells used → found ≡ filter passes (cells_within low high cells)
  pub bounded : (cells : List (List ℕ)) (used : ℕ → ℕ) (tree : IsTree form pages root cells used) → reads ≤ tree.height * (length found + 2)
  pub least : (cells : List (List ℕ)) (used : ℕ → ℕ) (tree : IsTree form pages root cells used)
      → pages_leading low high passes form pages tree.height root cells used tree.stands ≤ reads

-- a test of summaries accepts a join exactly where it accepts a part
pub record AcceptsParts {S : Type 0} (join : S → S → S) (test : S → Bool) : Type 0 where
  pub each : (one other : S) → test (join one other) ≡ (test one || test other)

-- a tree with other cells has taken the tree's place, and its pages have moved beside those of any other owners
pub record Becomes (form : Form) (old new : PageMap) (root : ℕ) (before : ℕ → ℕ) (cells : List (List ℕ)) : Type 0 where
  pub after : ℕ → ℕ
  pub tree : IsTree form new root cells after
  pub moves : Moves old new before after

-- no tree stands there with pages that are shared with other owners and a free list, so that each has one owner
pub record IsNotShared (form : Form) (pages : PageMap) (root : ℕ) : Type 0 where
  pub none : (cells : List (List ℕ)) (used others : ℕ → ℕ) → IsTree form pages root cells used → Shares pages (used & others) → ⊥

-- where a tree stands there, whose pages are shared with other owners and a free list, a tree with other cells takes its place
pub record Changes (form : Form) (old new : PageMap) (root to : ℕ) (change : List (List ℕ) → List (List ℕ)) : Type 0 where
  pub each : (cells : List (List ℕ)) (used others : ℕ → ℕ) → IsTree form old root cells used → Shares old (used & others) → Becomes form old new to used (change cells)

-- just the cells from one bound on, below another, of the tree that stands there
abbrev pub Ranges : {P : Type 0} → Ghosts P → Form → ℕ → List ℕ → List ℕ → Result Cells Refusal → P → Type 0
Ranges pages form root low high result old = pages.is_tied old → IfOk result (λ found. (cells : List (List ℕ)) (used : ℕ → ℕ)
    → IsTree form (pages.store old).map root cells used → listed found ≡ cells_within low high cells)

-- just those whose own summary passes the test that is answered, and how many pages were read, where the test accepts a join
-- exactly where it accepts one of its parts
abbrev pub Descends : {P S : Type 0} → Ghosts P → Summaries S → Form → ℕ → List ℕ → List ℕ → (S → Bool → Type 0) → Result (Cells × ℕ) Refusal → P → Type 0
Descends {S = S} pages summaries form root low high answers result old = pages.is_tied old → (test : S → Bool) → Computes answers test → AcceptsParts summaries.join test
    → IfOk result (λ found. Finds form (pages.store old).map root low high (λ cell. test (summaries.of cell)) (listed found.0) found.1)

-- on an honest disk, what a walk that is not refused goes through, where the test of summaries that is answered accepts a join
-- exactly where it accepts a part: a cell passes it by its own summary
abbrev pub WalksBy : {P S T : Type 0} → Ghosts P → Summaries S → (S → Bool → Type 0) → (PageMap → (List ℕ → Bool) → Type 0) → Result T Refusal → P → Type 0
WalksBy {S = S} pages summaries answers walks result old = pages.is_tied old → (test : S → Bool) → Computes answers test → AcceptsParts summaries.join test
    → OnOk result (walks (pages.store old).map (λ cell. test (summaries.of cell)))

-- why it is refused: 94 only where no tree stands there
abbrev pub RefusesReading : {P T : Type 0} → Ghosts P → Form → ℕ → Result T Refusal → P → P → Type 0
RefusesReading pages form root result old new = IfErr result (λ why. RefusesToRead (pages.is_tied old) form root why (pages.store old) (pages.store new))

-- what a call that changes a tree leaves on any disk, and which refusals may come: 94 only where no tree stands there whose
-- pages are its own
abbrev pub LeavesTree : {P T : Type 0} → Ghosts P → Form → ℕ → Result T Refusal → P → P → Type 0
LeavesTree pages form root result old new = Leaves pages (IsNotShared form (pages.store old).map root) result old new
