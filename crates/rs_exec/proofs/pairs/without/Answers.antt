use Rattle.std.proofs.Common.{map}
use Rattle.rs_facts.specs.Spans.{seen}
use Rattle.rs_coalesce.specs.Lent.{seen_lent}
use Rattle.rs_exec.proofs.Pairing.{minus-paired}
use Rattle.rs_exec.proofs.pairs.without.Goals as goal

pub returns : goal.returns
returns c =
    let made = c.in_ok-spans.ensures in
    minus-paired c.args.kinds (map seen c.args.left.items) (map seen_lent c.args.upper.now) (map seen c.in_ok-spans.spans.items) made.sorted made.means made.placed made.width
