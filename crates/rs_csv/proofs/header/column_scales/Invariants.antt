use Rattle.std.proofs.Common.{take}
use Rattle.rs_csv.specs.Header.{AreScales}
use Rattle.rs_csv.proofs.header.column_scales.Given as goal

abbrev pub invariant-loop-column : goal.invariant-loop-column
invariant-loop-column l = AreScales l.wanted (take l.column-index l.definition.columns.items) l.scales.items
