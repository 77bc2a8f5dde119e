use Rattle.rs_exec.specs.Meaning.{leaf_meaning}
use Rattle.rs_exec.proofs.Holding.{earlier}
use Rattle.rs_exec.proofs.JoinedRows.{joined-earlier}
use Rattle.rs_exec.proofs.leaves.leaf_on.Goals as goal

pub returns-clause-held : goal.returns-clause-held
returns-clause-held g c = (
  c.in_ok-first.ensures.held,
  earlier (g.S.Source.is c.args.source.now) (g.S.Source.is c.leaf_rows.new.source) c.args.routes.version (leaf_meaning c.args.leaf.now) c.args.routes.others.now c.in_ok-others.others.items c.in_ok-first.ensures.ends.leaves.stands c.in_ok-others.ensures.held,
)

pub returns-clause-joined : goal.returns-clause-joined
returns-clause-joined g c = (
  c.in_ok-first.ensures.joined,
  joined-earlier (g.S.Source.is c.args.source.now) (g.S.Source.is c.leaf_rows.new.source) c.args.leaf.now.table.kind c.in_ok-others.others.items c.in_ok-first.ensures.ends.leaves.stands c.in_ok-others.ensures.joined,
)
