use Rattle.std.proofs.Common.{◌≡◌, length}
use Rattle.std.specs.List.{AllZip, zip}
use Rattle.rs_exec.specs.Pairs.{CanPair, IsPaired}
use Rattle.rs_exec.proofs.Lists.{Zips}
use Rattle.rs_exec.proofs.pairs.paired_each.Given as goal

abbrev pub invariant-loop-left : goal.invariant-loop-left
invariant-loop-left l = record {
  left_counted : length l.left-iterator.rest.items ≡ l.left-iterator.rest.len;
  right_counted : length l.rights.rest.items ≡ l.rights.rest.len;
  can : AllZip (CanPair l.pairing l.kinds) l.left-iterator.rest.items l.rights.rest.items;
  paired : Zips (IsPaired l.pairing l.kinds) (zip l.fn.lefts.items l.fn.rights.items) (zip l.left-iterator.rest.items l.rights.rest.items) l.made.items;
}
