use Rattle.std.proofs.Common.{◌≡◌, [], ◌++◌, length, map}
use Rattle.rs_facts.specs.Spans.{seen}
use Rattle.rs_sweep.specs.Parts.{IsCut, unchanged}
use Rattle.rs_sweep.specs.Taken.{taken_of}
use Rattle.rs_sweep.specs.declared.taken.Rows.TheVariants.{Each}
use Rattle.rs_sweep.proofs.difference.minus_by_row.Given as goal

abbrev pub invariant-loop-span : goal.invariant-loop-span
invariant-loop-span l = record {
  whole : l.yielded ++ l.span-iterator.rest.items ≡ l.fn.left.items;
  counted : length l.span-iterator.rest.items ≡ l.span-iterator.rest.len;
  cut : IsCut unchanged Each (map (taken_of Each) l.taken.items) (map seen l.yielded) [] (map seen l.kept.items);
}
