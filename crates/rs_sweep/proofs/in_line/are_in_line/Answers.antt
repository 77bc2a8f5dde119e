-- The answer of `is_sorted_by`.
use Rattle.std.proofs.Common.{rules}
use Rattle.std.proofs.lemmas.List.Sorted.{answers_always}
use Rattle.rs_sweep.proofs.PartLaws.{adjacent-ends, ends_by, in-line}
use Rattle.rs_sweep.proofs.in_line.are_in_line.Goals as goal

pub returns : goal.returns
returns c = λ yes. in-line c.args.spans.now c.requires.placed
    (adjacent-ends c.args.spans.now c.is_sorted_by.result (c.is_sorted_by.ensures.cases ends_by (answers_always _ _ _ (λ f a r q k. search rules))) yes)
