-- A page of a tree that was read.
use Rattle.std.specs.Prelude.{◌≡◌, ◌⊎◌, ◌<◌, ℕ, Some, List}
use Rattle.rs_refusal.specs.declared.refusal.Refusal.{Refusal}
use Rattle.rs_refusal.specs.declared.refusal.Refusal.TheVariants as refusal
use Rattle.rs_pages.specs.PageMap.{PageMap}
use Rattle.rs_tree.specs.declared.layout.Layout.{Layout}
use Rattle.rs_tree.specs.declared.node.Node.{Node}
use Rattle.rs_tree.specs.Node.{IsNode}

-- the page is the working page with this number, and holds what is said
pub record IsLoaded (tied : Type 0) (map : PageMap) (number : ℕ) (layout : Layout) (page : List ℕ) (held : Node) : Type 0 where
  pub bytes : tied → map.page number ≡ Some page
  pub node : IsNode page number layout held

-- no page of a tree has this number
pub record HasNoNode (map : PageMap) (number : ℕ) (layout : Layout) : Type 0 where
  pub none : (page : List ℕ) (node : Node) → map.page number ≡ Some page → 1 < number → IsNode page number layout node → ⊥

-- why it was not read: a call of the disk failed, or no page of a tree has this number, or none may be read any more
pub record RefusesToLoad (tied : Type 0) (map : PageMap) (number : ℕ) (layout : Layout) (left : ℕ) (why : Refusal) : Type 0 where
  pub cause : (why ≡ refusal.Disk) ⊎ (why ≡ refusal.DamagedFile)
  pub damaged : tied → why ≡ refusal.DamagedFile → 0 < left → HasNoNode map number layout
