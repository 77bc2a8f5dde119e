use Rattle.std.proofs.Common.{◌≡◌, ◌≤◌, [], ◌++◌, length, map, take}
use Rattle.std.specs.List.{AllByRecursion}
use Rattle.rs_coalesce.specs.Lent.{seen_lent}
use Rattle.rs_facts.specs.Spans.{seen}
use Rattle.rs_facts.specs.Runs.{Stretch}
use Rattle.rs_sweep.specs.Parts.{IsCut, unchanged}
use Rattle.rs_sweep.specs.declared.taken.Rows.TheVariants.{Each}
use Rattle.rs_sweep.proofs.difference.minus_in_line.Given as goal

abbrev pub invariant-loop-span : goal.invariant-loop-span
invariant-loop-span l = record {
  whole : l.yielded ++ l.span-iterator.rest.items ≡ l.fn.left.items;
  counted : length l.span-iterator.rest.items ≡ l.span-iterator.rest.len;
  within : l.first ≤ length l.right;
  ended : AllByRecursion (λ (s : Stretch). s.hi ≤ l.reach) (take l.first (map seen_lent l.right));
  cut : IsCut unchanged Each (map seen_lent l.right) (map seen l.yielded) [] (map seen l.kept.items);
}
