-- A query by its topmost node, its views opened or not.
use Rattle.std.specs.Prelude.{ℕ, map}
use Rattle.rs_facts.specs.Fact.{Names}
use Rattle.rs_machine.specs.Opening.{opened_times}
use Rattle.rs_syntax.specs.QueryView.{condition_tree, window_tree, query_tree}
use Rattle.rs_syntax.specs.Tree.{QueryTree, named, filtered, dissolved, renamed, overlaid, covered, merged, subtracted, windowed, transformed, gapped}
use Rattle.rs_checker.specs.declared.node.UnaryOperator.{UnaryOperator}
use Rattle.rs_checker.specs.declared.node.UnaryOperator.TheVariants as unary
use Rattle.rs_checker.specs.declared.node.BinaryOperator.{BinaryOperator}
use Rattle.rs_checker.specs.declared.node.BinaryOperator.TheVariants as binary
use Rattle.rs_checker.specs.declared.node.Node.{Node}
use Rattle.rs_checker.specs.declared.node.Node.TheVariants as nodes

abbrev pub unary_tree : UnaryOperator → QueryTree → QueryTree
unary_tree (unary.Where condition) operand = filtered operand (condition_tree condition.now)
unary_tree (unary.Dissolve names) operand = dissolved operand (map (λ name. name.bytes) names.now)
unary_tree (unary.Rename from to) operand = renamed operand from.now.bytes to.now.bytes
unary_tree (unary.Window window) operand = windowed operand (window_tree window.now)
unary_tree (unary.Transform name) operand = transformed operand name.now.bytes
unary_tree unary.Gaps operand = gapped operand

abbrev pub binary_tree : BinaryOperator → QueryTree → QueryTree → QueryTree
binary_tree binary.Overlay left right = overlaid left right
binary_tree binary.Cover left right = covered left right
binary_tree binary.Merge left right = merged left right
binary_tree binary.Minus left right = subtracted left right

abbrev pub node_tree : Node → QueryTree
node_tree (nodes.Named name) = named name.now.bytes
node_tree (nodes.Unary operator operand) = unary_tree operator (query_tree operand.now)
node_tree (nodes.Binary operator left right) = binary_tree operator (query_tree left.now) (query_tree right.now)

-- a node over operands whose views are opened so many times; a name stays
abbrev pub opened_tree : Names QueryTree → ℕ → Node → QueryTree
opened_tree views openings (nodes.Named name) = named name.now.bytes
opened_tree views openings (nodes.Unary operator operand) = unary_tree operator (opened_times openings views (query_tree operand.now))
opened_tree views openings (nodes.Binary operator left right) = binary_tree operator (opened_times openings views (query_tree left.now)) (opened_times openings views (query_tree right.now))
