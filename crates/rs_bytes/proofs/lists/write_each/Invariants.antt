use Rattle.std.proofs.Common.{map, take}
use Rattle.rs_bytes.specs.Codes.{Writes, SaysEach}
use Rattle.rs_bytes.proofs.lists.write_each.Given as goal

abbrev pub invariant-loop-item : goal.invariant-loop-item
invariant-loop-item g l = Writes (SaysEach g.T.Item.says) l.fn.bytes.items (map g.T.Item.said (take l.item-index l.items)) l.bytes.items
