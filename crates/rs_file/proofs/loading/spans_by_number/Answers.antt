-- Routes that were sorted by their numbers.
use Rattle.std.proofs.Common.{rules}
use Rattle.std.proofs.lemmas.Fn.{always_returns_same}
use Rattle.std.proofs.lemmas.List.Sorted.{IsNonDecreasingBy-from_sort}
use Rattle.rs_versioned.specs.declared.route_span.RouteSpan.{RouteSpan}
use Rattle.rs_file.proofs.loading.spans_by_number.Goals as goal

pub returns-clause-sorted : goal.returns-clause-sorted
returns-clause-sorted c =
    IsNonDecreasingBy-from_sort (λ (span : RouteSpan). span.number) _ (c.sort_unstable_by_key.ensures.sorted (λ (span : RouteSpan). span.number) (always_returns_same _ _ _ (λ a r f k. search rules)))
