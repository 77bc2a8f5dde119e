use Rattle.std.proofs.Common.{map}
use Rattle.rs_facts.specs.Spans.{seen}
use Rattle.rs_exec.specs.Windows.{IsSpread}
use Rattle.rs_exec.proofs.Lists.{zips-none, zips-all, end}
use Rattle.rs_exec.proofs.windows.spread_each.Goals as goal

pub loop-number-init : goal.loop-number-init
loop-number-init c = zips-none (IsSpread c.args.route (map seen c.args.spans.now)) _ _ c.new-rows.ensures.items

pub returns : goal.returns
returns c = zips-all (IsSpread c.args.route (map seen c.args.spans.now)) _ _ _ c.loop-number.invariant (end c.args.numbers.now c.loop-number.number-index c.loop-number-test.false)
