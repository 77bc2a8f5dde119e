use Rattle.std.proofs.Common.{sym, ◌∙◌}
use Rattle.rs_facts.specs.Spans.{seen}
use Rattle.rs_coalesce.proofs.Orders.{joins-reached, joins-apart}
use Rattle.rs_coalesce.proofs.join.is_joined.Goals as goal

pub returns-then-reaches : goal.returns-then-reaches
returns-then-reaches c = joins-reached c.args.kind (seen c.args.before.now) (seen c.args.next.now) c.same_row.result (sym c.if-reaches.true ∙ c.reaches.ensures) c.same_row.ensures

pub returns-else-reaches : goal.returns-else-reaches
returns-else-reaches c = joins-apart c.args.kind (seen c.args.before.now) (seen c.args.next.now) c.reaches.result c.if-reaches.false (sym c.if-reaches.false ∙ c.reaches.ensures)
