use Rattle.std.proofs.Common.{◌≡◌, false, Ordering, Less, Equal, Greater, refl}
use Rattle.std.specs.Ordering.{is_lt, nat_cmp, ordering_then}
use Rattle.rs_value.specs.Row.{row_cmp}
use Rattle.rs_facts.specs.Runs.{Stretch, stretch_cmp}
use Rattle.rs_facts.specs.Spans.{seen}
use Rattle.rs_sweep.proofs.Arrangement.{sorted-from_sort}
use Rattle.rs_sweep.proofs.order.sort_by_place.Goals as goal

first_not_below : (o p : Ordering) → is_lt (ordering_then o p) ≡ false → is_lt o ≡ false
first_not_below Less p e = e
first_not_below Equal p e = refl
first_not_below Greater p e = refl

not_below : (a b : Stretch) → is_lt (stretch_cmp a b) ≡ false → is_lt (nat_cmp a.lo b.lo) ≡ false
unfolding stretch_cmp
not_below a b e = first_not_below (nat_cmp a.lo b.lo) (row_cmp a.row b.row) e

pub returns-clause-sorted : goal.returns-clause-sorted
returns-clause-sorted c = sorted-from_sort seen _ (λ k d from inside. not_below _ _ (c.sort_by_place.ensures.sorted k d from inside))
