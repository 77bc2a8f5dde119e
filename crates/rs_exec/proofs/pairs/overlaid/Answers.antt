use Rattle.std.proofs.Common.{map}
use Rattle.rs_facts.specs.Spans.{seen}
use Rattle.rs_coalesce.specs.Lent.{seen_lent}
use Rattle.rs_exec.proofs.Pairing.{overlay-paired}
use Rattle.rs_exec.proofs.pairs.overlaid.Goals as goal

pub returns : goal.returns
returns c =
    let made = c.in_ok-spans.ensures in
    overlay-paired c.args.kinds (map seen_lent c.args.lower.now) (map seen_lent c.args.upper.now) (map seen c.in_ok-spans.spans.items) made.sorted made.means made.placed made.width made.joined
