use Rattle.std.proofs.Common.{drop, map}
use Rattle.rs_facts.specs.Spans.{seen}
use Rattle.rs_exec.specs.Windows.{IsSpread}
use Rattle.rs_exec.proofs.Lists.{Zips}
use Rattle.rs_exec.proofs.windows.spread_each.Given as goal

abbrev pub invariant-loop-number : goal.invariant-loop-number
invariant-loop-number l = Zips (IsSpread l.route (map seen l.spans)) l.numbers (drop l.number-index l.numbers) l.rows.items
