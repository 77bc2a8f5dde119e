-- What a page of a tree is, by its header.
use Rattle.std.specs.Prelude.{ℕ, ◌≤◌, List}
use Rattle.rs_page.specs.declared.header.PageKind.TheVariants as kind
use Rattle.rs_tree.specs.Content.{HasRecords}
use Rattle.rs_tree.specs.declared.layout.Layout.{Layout}
use Rattle.rs_tree.specs.declared.node.Node.{Node}
use Rattle.rs_tree.specs.declared.node.Node.TheVariants.{Leaf, Inner}
use Rattle.rs_tree.specs.Layouts.{entry_bytes}

-- a page with this number holds so many cells or entries
abbrev pub IsNode : List ℕ → ℕ → Layout → Node → Type 0
IsNode page number layout (Leaf count) = HasRecords page kind.Leaf number count layout.width × (1 ≤ count)
IsNode page number layout (Inner count) = HasRecords page kind.Inner number count (entry_bytes layout) × (2 ≤ count)
