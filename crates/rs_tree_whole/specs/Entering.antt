-- A page of a tree that was reached and read.
use Rattle.std.specs.Prelude.{◌≡◌, ◌<◌, ◌≤◌, ℕ, Some, List}
use Rattle.rs_pages.specs.PageMap.{PageMap}
use Rattle.rs_page_owners.specs.Counts.{◌&◌, one_at}
use Rattle.rs_tree.specs.declared.layout.Layout.{Layout}
use Rattle.rs_tree.specs.declared.node.Node.{Node}
use Rattle.rs_tree.specs.Node.{IsNode}
use Rattle.rs_tree.specs.Reading.{IsLoaded}

-- the page is the working page with this number, which is one of the file's, and holds what is said
pub record Enters (tied : Type 0) (map : PageMap) (number : ℕ) (layout : Layout) (page : List ℕ) (node : Node) : Type 0 where
  pub after : 1 < number
  pub below : number < map.fields.pages
  pub loaded : IsLoaded tied map number layout page node

-- no page of a tree has this number that wasn't reached before
pub record HasNoFreshNode (map : PageMap) (number : ℕ) (layout : Layout) (before : ℕ → ℕ) : Type 0 where
  pub none : (page : List ℕ) (node : Node) → map.page number ≡ Some page → 1 < number → number < map.fields.pages
      → IsNode page number layout node → (before & one_at number) number ≤ 1 → ⊥
