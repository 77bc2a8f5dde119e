use Rattle.std.proofs.Common.{rules, suc, get_or}
use Rattle.std.proofs.lemmas.Bool.{leb-true}
use Rattle.std.proofs.lemmas.List.Sorted.{answers_always}
use Rattle.rs_coalesce.proofs.Orders.{adjacent, begins_before}
use Rattle.rs_coalesce.proofs.order.begin_in_turn.Goals as goal

pub returns : goal.returns
returns c = λ all k d inside. leb-true (get_or c.args.spans.now k d).lo (get_or c.args.spans.now (suc k) d).lo (adjacent begins_before c.args.spans.now c.is_sorted_by.result (c.is_sorted_by.ensures.cases begins_before (answers_always _ _ _ (λ f a r q k. search rules))) all k d inside)
