-- The summary of all cells of the children so far.
use Rattle.std.proofs.Common.{◌≡◌, List, take}
use Rattle.std.specs.List.{AllZip, flat_map}
use Rattle.rs_records.specs.Records.{records}
use Rattle.rs_tree.specs.Content.{Child, SaysChild}
use Rattle.rs_tree.specs.Form.{joined}
use Rattle.rs_tree.specs.Layouts.{entry_bytes}
use Rattle.rs_tree.proofs.summing.inner_summary.Given as goal
use Rattle.rs_tree.specs.Forms.{form_in}

abbrev pub invariant-loop-index : goal.invariant-loop-index
invariant-loop-index g l =
    (children : List Child) → AllZip (SaysChild (form_in g.S.Summary l.layout)) (records l.count (entry_bytes l.layout) l.bytes) children
    → l.whole ≡ joined g.S.Summary.unit g.S.Summary.join g.S.Summary.of (flat_map (λ child. child.cells) (take l.index children))
