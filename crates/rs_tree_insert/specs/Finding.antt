-- Where a cell belongs in a page.
use Rattle.std.specs.Prelude.{◌≡◌, ℕ, Some, List, slice_get}
use Rattle.rs_pages.specs.PageMap.{PageMap}
use Rattle.rs_records.specs.Order.{Ascends}
use Rattle.rs_records.specs.Records.{records, keys, IsPlace}
use Rattle.rs_tree.specs.Content.{content}
use Rattle.rs_tree.specs.Form.{least_from}
use Rattle.rs_tree.specs.Layouts.{entry_bytes}
use Rattle.rs_tree.specs.Node.{IsNode}
use Rattle.rs_tree.specs.declared.layout.Layout.{Layout}
use Rattle.rs_tree.specs.declared.node.Node.TheVariants as node
use Rattle.rs_tree_edit.specs.Choosing.{IsEntryFor}
use Rattle.rs_tree_insert.specs.declared.finding.Spot.{Spot}
use Rattle.rs_tree_insert.specs.declared.finding.Spot.TheVariants as spot

-- the page is a leaf with the cell
pub record HasCell (page : List ℕ) (number : ℕ) (layout : Layout) (cell : List ℕ) : Type 0 where
  pub count : ℕ
  pub at : ℕ
  pub node : IsNode page number layout (node.Leaf count)
  pub has : slice_get (keys 0 (records count layout.width (content page))) at ≡ Some cell

-- the page is a leaf of so many cells, and the cell belongs at this place among them, but isn't there
pub record BelongsAt (page : List ℕ) (number : ℕ) (layout : Layout) (cell : List ℕ) (count at : ℕ) : Type 0 where
  pub node : IsNode page number layout (node.Leaf count)
  pub place : IsPlace (keys 0 (records count layout.width (content page))) cell at
  pub none : slice_get (keys 0 (records count layout.width (content page))) at ≡ Some cell → ⊥

-- the page is an inner one of so many entries, and the cell belongs under this one, at this place
pub record BelongsUnder (page : List ℕ) (number : ℕ) (layout : Layout) (cell entry : List ℕ) (count at : ℕ) : Type 0 where
  pub node : IsNode page number layout (node.Inner count)
  pub chosen : Ascends (keys (least_from layout.summary) (records count (entry_bytes layout) (content page)))
      → IsEntryFor (keys (least_from layout.summary) (records count (entry_bytes layout) (content page))) cell at
  pub found : slice_get (records count (entry_bytes layout) (content page)) at ≡ Some entry

abbrev pub IsSpot : List ℕ → ℕ → Layout → List ℕ → List ℕ → Spot → Type 0
IsSpot page number layout cell entry spot.Found = HasCell page number layout cell
IsSpot page number layout cell entry (spot.Leaf count at) = BelongsAt page number layout cell count at
IsSpot page number layout cell entry (spot.Inner count at) = BelongsUnder page number layout cell entry count at

-- this is where the cell belongs in the page with this number
pub record FindsSpot (tied : Type 0) (map : PageMap) (number : ℕ) (layout : Layout) (cell entry : List ℕ) (found : Spot) : Type 0 where
  pub page : List ℕ
  pub bytes : tied → map.page number ≡ Some page
  pub is : IsSpot page number layout cell entry found
