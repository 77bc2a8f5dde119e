-- The answer of `is_sorted_by`.
use Rattle.std.proofs.Common.{rules}
use Rattle.std.proofs.lemmas.List.Sorted.{answers_always}
use Rattle.rs_file.proofs.Meant.{answer_rising, comes_before}
use Rattle.rs_file.proofs.loading.are_rising.Goals as goal

pub returns : goal.returns
returns c = answer_rising c.args.spans.now c.is_sorted_by.result (c.is_sorted_by.ensures.cases comes_before (answers_always _ _ _ (λ f a r q k. search rules)))
