-- Parts of a tree that take the place of others, and entries that say them.
use Rattle.std.specs.Prelude.{◌≡◌, ℕ, List, map}
use Rattle.std.specs.List.{AllByRecursion, flat_map, sum_by}
use Rattle.rs_pages.specs.PageMap.{PageMap}
use Rattle.rs_page_owners.specs.Owners.{Moves}
use Rattle.rs_tree.specs.Form.{Form}
use Rattle.rs_tree.specs.Content.{SaysChild, Child, IsLeaf, IsInner}
use Rattle.rs_tree.specs.Shape.{Shape, Lies, page_of, cells_of, uses, child_of}
use Rattle.rs_tree.specs.Walking.{IsPart}

-- how often a page is one of theirs
abbrev pub uses_all : (height : ℕ) → List (Shape height) → ℕ → ℕ
uses_all height parts number = sum_by (λ part. uses height part number) parts

-- parts with these pages at their tops lie there and have these cells, and the pages of what was there before are theirs now
pub record TakesPlace (form : Form) (old new : PageMap) (height : ℕ) (before : ℕ → ℕ) (tops : List ℕ) (cells : List (List ℕ)) : Type 0 where
  pub parts : List (Shape height)
  pub lie : AllByRecursion (Lies form new height) parts
  pub top : map (page_of height) parts ≡ tops
  pub lists : flat_map (cells_of height) parts ≡ cells
  pub moves : Moves old new before (uses_all height parts)

-- the entry says the part with this page at its top, whichever it is
pub record SaysPart (form : Form) (pages : PageMap) (number : ℕ) (entry : List ℕ) : Type 0 where
  pub each : (height : ℕ) (shape : Shape height) → IsPart form pages number height shape → SaysChild form entry (child_of height shape)

-- the entry says what the bytes of a page hold
pub record SaysNode (form : Form) (number : ℕ) (page entry : List ℕ) : Type 0 where
  pub leaf : (cells : List (List ℕ)) → IsLeaf form page number cells → SaysChild form entry (record { page = number; cells = cells })
  pub inner : (children : List Child) → IsInner form page number children
      → SaysChild form entry (record { page = number; cells = flat_map (λ child. child.cells) children })
