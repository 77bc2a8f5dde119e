-- Where there is no header, or another, there is no page of a tree.
use Rattle.std.proofs.Common.{Option, Some, None, IfNone}
use Rattle.rs_tree.proofs.Nodes.{has_header}
use Rattle.rs_tree.proofs.node.read_node.Goals as goal

-- what holds anyhow holds where there is none
on_none : {T P : Type 0} (found : Option T) → P → IfNone found P
on_none (Some value) holds = tt
on_none None holds = holds

pub returns-in_err-header-clause-none : goal.returns-in_err-header-clause-none
returns-in_err-header-clause-none c = on_none c.from_residual.result (λ node is. let there = has_header c.args.page.now.bytes c.args.number c.args.layout node is in c.in_err-header.ensures.none there.0 there.1)
