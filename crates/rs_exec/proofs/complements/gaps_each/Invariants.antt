use Rattle.std.proofs.Common.{◌≡◌, length, drop}
use Rattle.std.specs.List.{zip}
use Rattle.rs_exec.specs.Gaps.{HaveShapes, HasGaps}
use Rattle.rs_exec.proofs.Lists.{Zips}
use Rattle.rs_exec.proofs.complements.gaps_each.Given as goal

abbrev pub invariant-loop-number : goal.invariant-loop-number
invariant-loop-number g l = record {
  counted : length l.rows.rest.items ≡ l.rows.rest.len;
  can : HaveShapes (drop l.number-index l.numbers) l.rows.rest.items;
  made : Zips (HasGaps (g.S.Source.is l.source) l.version) (zip l.numbers l.fn.rows.items) (zip (drop l.number-index l.numbers) l.rows.rest.items) l.made.items;
}
