use Rattle.std.proofs.Common.{map}
use Rattle.rs_facts.specs.Spans.{seen}
use Rattle.rs_coalesce.specs.Lent.{seen_lent}
use Rattle.rs_exec.proofs.Pairing.{cover-paired}
use Rattle.rs_exec.proofs.pairs.covered.Goals as goal

pub returns : goal.returns
returns c =
    let made = c.in_ok-spans.ensures in
    cover-paired c.args.kinds (map seen_lent c.args.lower.now) (map seen_lent c.args.upper.now) (map seen c.in_ok-spans.spans.items) made.sorted
    c.args.widths.0 c.args.widths.1 c.from-first_width.result c.from-second_width.result c.from-first_width.ensures c.from-second_width.ensures made.means made.placed made.width
