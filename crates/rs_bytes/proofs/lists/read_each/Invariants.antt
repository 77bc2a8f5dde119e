use Rattle.std.proofs.Common.{◌≡◌, ◌≤◌, length, map}
use Rattle.rs_bytes.specs.Codes.{Reads, SaysEach}
use Rattle.rs_bytes.proofs.lists.read_each.Given as goal

abbrev pub invariant-loop-i : goal.invariant-loop-i
invariant-loop-i g l = record {
  many : length l.items.items ≡ l._i;
  within : l._i ≤ l.count;
  read : Reads (SaysEach g.T.Item.says) l.fn.reader (map g.T.Item.said l.items.items) l.reader;
}
