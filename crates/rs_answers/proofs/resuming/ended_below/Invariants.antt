use Rattle.std.proofs.Common.{◌≡◌, ◌<◌, map, take}
use Rattle.std.specs.List.{AllByRecursion}
use Rattle.rs_facts.specs.Spans.{seen}
use Rattle.rs_answers.proofs.resuming.ended_below.Given as goal

abbrev pub invariant-loop-run : goal.invariant-loop-run
invariant-loop-run l = record {
  at : l.count ≡ l.run-index;
  ended : AllByRecursion (λ run. run.hi < l.to) (take l.run-index (map seen l.runs));
}
