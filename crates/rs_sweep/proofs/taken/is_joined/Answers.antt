use Rattle.std.proofs.Common.{refl, arith}
use Rattle.std.proofs.lemmas.Bool.{lt-leb}
use Rattle.rs_facts.specs.Spans.{seen}
use Rattle.rs_sweep.proofs.TakenLaws.{joins-all, joins-each, joins-none}
use Rattle.rs_sweep.proofs.taken.is_joined.Goals as goal

pub returns-in-All : goal.returns-in-All
returns-in-All c = joins-all c.args.rows c.args.taken.now (seen c.args.span.now) c.in-All.is (omega (arith, c.if-span-taken.true))

pub returns-in-Each : goal.returns-in-Each
returns-in-Each c = joins-each c.args.rows c.args.taken.now (seen c.args.span.now) c.same_row.result _ c.in-Each.is (omega (arith, c.if-span-taken.true)) refl c.same_row.ensures

pub returns-else-span-taken : goal.returns-else-span-taken
returns-else-span-taken c = joins-none c.args.rows c.args.taken.now (seen c.args.span.now) _ (lt-leb c.args.span.now.lo c.args.taken.now.hi (omega (arith, c.if-span-taken.false))) (omega (arith, c.if-span-taken.false))
