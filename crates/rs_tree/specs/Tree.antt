-- What a tree is.
use Rattle.std.specs.Prelude.{◌≡◌, ◌≤◌, ℕ, zero, suc, List, []}
use Rattle.rs_pages.specs.PageMap.{PageMap}
use Rattle.rs_records.specs.Order.{Ascends}
use Rattle.rs_tree.specs.Form.{Form}
use Rattle.rs_tree.specs.Shape.{Shape, Lies, page_of, cells_of, uses}

-- a shape with this page at its top lies in the pages, and has these cells and uses
pub record HasShape (form : Form) (pages : PageMap) (height : ℕ) (root : ℕ) (cells : List (List ℕ)) (used : ℕ → ℕ) : Type 0 where
  pub shape : Shape height
  pub lies : Lies form pages height shape
  pub top : page_of height shape ≡ root
  pub lists : cells_of height shape ≡ cells
  pub owns : (number : ℕ) → uses height shape number ≡ used number

-- there are no cells and no pages
pub record IsEmptyTree (root : ℕ) (cells : List (List ℕ)) (used : ℕ → ℕ) : Type 0 where
  pub none : root ≡ 0
  pub no_cells : cells ≡ []
  pub no_pages : (number : ℕ) → used number ≡ 0

-- a tree of so many levels stands there, none of them where it is empty
abbrev pub Stands : Form → PageMap → ℕ → ℕ → List (List ℕ) → (ℕ → ℕ) → Type 0
Stands form pages zero root cells used = IsEmptyTree root cells used
Stands form pages (suc height) root cells used = HasShape form pages height root cells used

-- the page with this number is the root of a tree (0: of the empty one) with these cells, whose pages are each its own once
pub record IsTree (form : Form) (pages : PageMap) (root : ℕ) (cells : List (List ℕ)) (used : ℕ → ℕ) : Type 0 where
  pub height : ℕ
  pub stands : Stands form pages height root cells used
  pub ascends : Ascends cells
  pub once : (number : ℕ) → used number ≤ 1

-- no tree stands there
pub record IsNoTree (form : Form) (pages : PageMap) (root : ℕ) : Type 0 where
  pub none : (cells : List (List ℕ)) (used : ℕ → ℕ) → IsTree form pages root cells used → ⊥
