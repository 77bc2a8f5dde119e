-- The answer of `is_sorted_by`.
use Rattle.std.proofs.Common.{rules}
use Rattle.std.proofs.lemmas.List.Sorted.{answers_always}
use Rattle.rs_coalesce.proofs.Orders.{apart-answer, ends_before}
use Rattle.rs_coalesce.proofs.order.are_apart.Goals as goal

pub returns : goal.returns
returns c = apart-answer c.args.spans.now c.is_sorted_by.result (c.is_sorted_by.ensures.cases ends_before (answers_always _ _ _ (λ f a r q k. search rules)))
