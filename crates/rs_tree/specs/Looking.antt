-- What a look at a page finds on the walk through a tree.
use Rattle.std.specs.Prelude.{◌≡◌, ◌-◌, ℕ, Bool, Some, List, ◌++◌, take, drop}
use Rattle.rs_pages.specs.PageMap.{PageMap}
use Rattle.rs_records.specs.Order.{Ascends}
use Rattle.rs_records.specs.Records.{records, keys}
use Rattle.rs_tree.specs.Content.{content}
use Rattle.rs_tree.specs.Form.{least_from}
use Rattle.rs_tree.specs.Layouts.{entry_bytes}
use Rattle.rs_tree.specs.Node.{IsNode}
use Rattle.rs_tree.specs.Searches.{wanted}
use Rattle.rs_tree.specs.Walking.{IsRange}
use Rattle.rs_tree.specs.declared.layout.Layout.{Layout}
use Rattle.rs_tree.specs.declared.node.Node.TheVariants.{Leaf, Inner}

-- the page is a leaf, and those of its cells that are wanted were put after the others
pub record HasLeaf (page : List ℕ) (number : ℕ) (layout : Layout) (low high : List ℕ) (passes : List ℕ → Bool) (before after : List (List ℕ)) : Type 0 where
  pub count : ℕ
  pub node : IsNode page number layout (Leaf count)
  pub found : Ascends (records count layout.width (content page)) → after ≡ before ++ wanted low high passes (records count layout.width (content page))

-- these entries of an inner page with so many are those that may say a cell within the bounds
pub record HoldsEntries (page : List ℕ) (count : ℕ) (layout : Layout) (low high : List ℕ) (entries : List (List ℕ)) : Type 0 where
  pub from : ℕ
  pub to : ℕ
  pub range : IsRange (keys (least_from layout.summary) (records count (entry_bytes layout) (content page))) low high from to
  pub part : entries ≡ take (to - from) (drop from (records count (entry_bytes layout) (content page)))

-- the page is an inner one, and these are those of its entries
pub record HasInner (page : List ℕ) (number : ℕ) (layout : Layout) (low high : List ℕ) (entries : List (List ℕ)) : Type 0 where
  pub count : ℕ
  pub node : IsNode page number layout (Inner count)
  pub held : HoldsEntries page count layout low high entries

-- the working page with this number is a leaf, and so on
pub record FindsLeaf (tied : Type 0) (map : PageMap) (number : ℕ) (layout : Layout) (low high : List ℕ) (passes : List ℕ → Bool) (before after : List (List ℕ)) : Type 0 where
  pub page : List ℕ
  pub there : tied → map.page number ≡ Some page
  pub leaf : HasLeaf page number layout low high passes before after

-- the working page with this number is an inner one, and so on
pub record FindsInner (tied : Type 0) (map : PageMap) (number : ℕ) (layout : Layout) (low high : List ℕ) (entries : List (List ℕ)) : Type 0 where
  pub page : List ℕ
  pub there : tied → map.page number ≡ Some page
  pub inner : HasInner page number layout low high entries
