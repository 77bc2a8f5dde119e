use Rattle.std.proofs.Common.{length, take, ◌-◌, ◌≤◌, ◌≡◌}
use Rattle.rs_csv.specs.Words.{AreKnown, TextsGrow, unpacked}
use Rattle.rs_csv.proofs.words.Words.pack.Given as goal

abbrev pub invariant-words : goal.invariant-words
invariant-words l = record {
  within : l.at ≤ length l.text;
  grows : TextsGrow l.fn.self l.self;
  known : AreKnown l.self l.packed.items;
  so_far : unpacked l.self l.packed.items ≡ take l.at l.text;
}

abbrev pub decreases-words : goal.decreases-words
decreases-words l = length l.text - l.at
