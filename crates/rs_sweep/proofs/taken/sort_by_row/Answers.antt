use Rattle.std.proofs.Common.{Bor, rules}
use Rattle.std.proofs.lemmas.Fn.{always_returns_same}
use Rattle.std.proofs.lemmas.List.Sorted.{ranks_by}
use Rattle.std.specs.Ordering.{is_lt}
use Rattle.rs_facts.specs.declared.fact.Span.{Span}
use Rattle.rs_facts.specs.Spans.{seen}
use Rattle.rs_coalesce.specs.Joined.{row_place_cmp}
use Rattle.rs_coalesce.proofs.Orders.{row_place_cmp-total}
use Rattle.rs_sweep.proofs.taken.sort_by_row.Goals as goal

pub returns-clause-sorted : goal.returns-clause-sorted
returns-clause-sorted c = c.sort_unstable_by.ensures.sorted (λ a b. is_lt (row_place_cmp (seen a.now) (seen b.now))) (ranks_by row_place_cmp-total (λ (r : Bor Span). seen r.now)) (always_returns_same _ _ _ (λ a r f' k. search rules))
