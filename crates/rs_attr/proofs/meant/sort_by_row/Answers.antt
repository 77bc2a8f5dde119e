-- The order is total.
use Rattle.std.proofs.Common.{rules}
use Rattle.std.proofs.lemmas.Fn.{always_returns_same}
use Rattle.std.proofs.lemmas.List.Sorted.{ranks_by}
use Rattle.std.specs.Ordering.{is_lt}
use Rattle.rs_attr.specs.Meant.{lent_cmp}
use Rattle.rs_attr.proofs.LentOrder.{lent_cmp-total}
use Rattle.rs_attr.proofs.meant.sort_by_row.Goals as goal

pub returns-clause-sorted : goal.returns-clause-sorted
returns-clause-sorted c = c.sort_unstable_by.ensures.sorted (λ a b. is_lt (lent_cmp a b)) (ranks_by lent_cmp-total (λ r. r)) (always_returns_same _ _ _ (λ a r f' k. search rules))
