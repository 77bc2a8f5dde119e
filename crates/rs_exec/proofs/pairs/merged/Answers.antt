use Rattle.std.proofs.Common.{map}
use Rattle.rs_facts.specs.Spans.{seen}
use Rattle.rs_exec.proofs.Pairing.{merge-paired}
use Rattle.rs_exec.proofs.pairs.merged.Goals as goal

pub returns : goal.returns
returns c =
    let made = c.in_ok-spans.ensures in
    merge-paired c.args.kinds (map seen c.args.left.items) (map seen c.args.right.items) (map seen c.in_ok-spans.spans.items) made.sorted made.means made.placed made.width
