-- What a page is has one header, and so one count.
use Rattle.std.proofs.Common.{ℕ, List}
use Rattle.rs_page.specs.Header.{IsHeader}
use Rattle.rs_page.specs.declared.header.PageHeader.{PageHeader}
use Rattle.rs_page.specs.declared.header.PageKind.TheVariants as kind
use Rattle.rs_tree.specs.Content.{tree_header}
use Rattle.rs_tree.specs.Node.{IsNode}
use Rattle.rs_tree.specs.declared.layout.Layout.{Layout}
use Rattle.rs_tree.specs.declared.node.Node.{Node}
use Rattle.rs_tree.specs.declared.node.Node.TheVariants.{Leaf, Inner}

pub has_header : (page : List ℕ) (number : ℕ) (layout : Layout) (node : Node) → IsNode page number layout node → (header : PageHeader) × IsHeader page header
has_header page number layout (Leaf count) is = (tree_header kind.Leaf count number, is.0.header)
has_header page number layout (Inner count) is = (tree_header kind.Inner count number, is.0.header)
