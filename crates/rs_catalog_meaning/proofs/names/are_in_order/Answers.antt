-- The answer of `is_sorted_by`.
use Rattle.std.proofs.Common.{rules}
use Rattle.std.proofs.lemmas.List.Sorted.{answers_always}
use Rattle.rs_catalog_meaning.proofs.NameOrder.{answer_order, comes_before}
use Rattle.rs_catalog_meaning.proofs.names.are_in_order.Goals as goal

pub returns : goal.returns
returns g c =
    answer_order g.T.Named.name_of c.args.items.now c.is_sorted_by.result
    (c.is_sorted_by.ensures.cases (comes_before g.T.Named.name_of) (answers_always _ _ _ (λ f a r q k. search rules)))
