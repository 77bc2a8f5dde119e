-- What clearing a part of a tree does, beside all others who have pages.
use Rattle.std.specs.Prelude.{◌≤◌, ◌+◌, ℕ, suc, List}
use Rattle.std.specs.List.{sum_by}
use Rattle.rs_pages.specs.PageMap.{PageMap}
use Rattle.rs_page_owners.specs.Counts.{◌&◌, no_pages}
use Rattle.rs_page_owners.specs.Owners.{Shares, MovesBeside}
use Rattle.rs_tree.specs.Form.{Form}
use Rattle.rs_tree.specs.Shape.{Shape, uses, size_of}
use Rattle.rs_tree.specs.Walking.{IsPart, AreEntriesOf}

-- the pages that were used are free now, and each was read once at the most
pub record ClearedBeside (old new : PageMap) (used others : ℕ → ℕ) (size left left_after : ℕ) : Type 0 where
  pub moves : MovesBeside old new used no_pages others
  pub reads : left ≤ left_after + size

-- the part with this page at its top is cleared, whichever it is
pub record ClearsPart (form : Form) (old new : PageMap) (number left left_after : ℕ) : Type 0 where
  pub each : (height : ℕ) (shape : Shape height) (others : ℕ → ℕ) → IsPart form old number height shape → Shares old (uses height shape & others)
      → ClearedBeside old new (uses height shape) others (size_of height shape) left left_after

-- how often the page with this number is one of these parts'
abbrev pub uses_of_all : (height : ℕ) → List (Shape height) → ℕ → ℕ
uses_of_all height parts number = sum_by (λ part. uses height part number) parts

-- the parts that the entries of a page say are cleared
pub record ClearsEntries (form : Form) (old new : PageMap) (page : List ℕ) (count left left_after : ℕ) : Type 0 where
  pub each : (height : ℕ) (parts : List (Shape height)) (others : ℕ → ℕ) → AreEntriesOf form old page count height parts → Shares old (uses_of_all height parts & others)
      → ClearedBeside old new (uses_of_all height parts) others (sum_by (size_of height) parts) left left_after

-- no part of so few levels and pages has this page at its top and its pages to itself
pub record HasNoOwnPart (form : Form) (pages : PageMap) (number levels left : ℕ) : Type 0 where
  pub none : (height : ℕ) (shape : Shape height) (others : ℕ → ℕ) → IsPart form pages number height shape → height ≤ levels → size_of height shape ≤ left
      → Shares pages (uses height shape & others) → ⊥

-- the entries of the page say no such parts
pub record HasNoOwnParts (form : Form) (pages : PageMap) (page : List ℕ) (count levels left : ℕ) : Type 0 where
  pub none : (height : ℕ) (parts : List (Shape height)) (others : ℕ → ℕ) → AreEntriesOf form pages page count height parts → suc height ≤ levels
      → sum_by (size_of height) parts ≤ left → Shares pages (uses_of_all height parts & others) → ⊥
