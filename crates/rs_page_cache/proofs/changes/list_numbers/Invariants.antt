-- The numbers of the slots so far are listed, and each of their committed pages is whole.
use Rattle.std.proofs.Common.{◌≡◌, take}
use Rattle.rs_page_cache.specs.Changes.{AreWhole, committed_numbers}
use Rattle.rs_page_cache.proofs.changes.list_numbers.Given as goal

abbrev pub invariant-loop-slot : goal.invariant-loop-slot
invariant-loop-slot l = record {
  listed : l.numbers.items ≡ committed_numbers (take l.slot-index l.slots);
  whole : AreWhole (take l.slot-index l.slots);
}
