-- The shape of a tree: its pages, with the leaves at one depth by type.
use Rattle.std.specs.Prelude.{◌≡◌, ◌<◌, ◌+◌, ℕ, zero, suc, Some, List, map}
use Rattle.std.specs.List.{AllByRecursion, flat_map, sum_by}
use Rattle.rs_pages.specs.PageMap.{PageMap}
use Rattle.rs_page_owners.specs.Counts.{one_at}
use Rattle.rs_tree.specs.Form.{Form}
use Rattle.rs_tree.specs.Content.{Child, IsLeaf, IsInner}

-- a leaf
pub record Tip : Type 0 where
  pub page : ℕ
  pub cells : List (List ℕ)

-- an inner page and what is under it
pub record Fork (Part : Type 0) : Type 0 where
  pub page : ℕ
  pub parts : List Part

-- a part of a tree with so many levels of inner pages above its leaves
abbrev pub Shape : ℕ → Type 0
Shape zero = Tip
Shape (suc height) = Fork (Shape height)

-- the page at its top
abbrev pub page_of : (height : ℕ) → Shape height → ℕ
page_of zero shape = shape.page
page_of (suc height) shape = shape.page

-- its cells from the left to the right
abbrev pub cells_of : (height : ℕ) → Shape height → List (List ℕ)
cells_of zero shape = shape.cells
cells_of (suc height) shape = flat_map (cells_of height) shape.parts

-- how often the page with this number is one of its pages
abbrev pub uses : (height : ℕ) → Shape height → ℕ → ℕ
uses zero shape number = one_at shape.page number
uses (suc height) shape number = one_at shape.page number + sum_by (λ part. uses height part number) shape.parts

-- how many pages it has
abbrev pub size_of : (height : ℕ) → Shape height → ℕ
size_of zero shape = 1
size_of (suc height) shape = 1 + sum_by (size_of height) shape.parts

-- what the page above says of it
abbrev pub child_of : (height : ℕ) → Shape height → Child
child_of height shape = record { page = page_of height shape; cells = cells_of height shape }

-- the page with this number holds these cells
pub record LeafLies (form : Form) (map : PageMap) (number : ℕ) (cells : List (List ℕ)) : Type 0 where
  pub after : 1 < number
  pub below : number < map.fields.pages
  pub page : List ℕ
  pub there : map.page number ≡ Some page
  pub leaf : IsLeaf form page number cells

-- the page with this number says these children
pub record InnerLies (form : Form) (map : PageMap) (number : ℕ) (children : List Child) : Type 0 where
  pub after : 1 < number
  pub below : number < map.fields.pages
  pub page : List ℕ
  pub there : map.page number ≡ Some page
  pub inner : IsInner form page number children

-- the pages hold what the shape says
abbrev pub Lies : Form → PageMap → (height : ℕ) → Shape height → Type 0
Lies form pages zero shape = LeafLies form pages shape.page shape.cells
Lies form pages (suc height) shape =
    InnerLies form pages shape.page (map (child_of height) shape.parts) × AllByRecursion (Lies form pages height) shape.parts
