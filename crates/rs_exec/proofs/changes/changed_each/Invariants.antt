use Rattle.std.proofs.Common.{◌≡◌, length}
use Rattle.std.specs.List.{AllByRecursion}
use Rattle.rs_exec.specs.Routes.{IsInOrder}
use Rattle.rs_exec.specs.Changes.{IsChanged}
use Rattle.rs_exec.proofs.Lists.{Zips}
use Rattle.rs_exec.proofs.changes.changed_each.Given as goal

abbrev pub invariant-loop-rows : goal.invariant-loop-rows
invariant-loop-rows l = record {
  counted : length l.rows-iterator.rest.items ≡ l.rows-iterator.rest.len;
  ordered : AllByRecursion IsInOrder l.rows-iterator.rest.items;
  changed : Zips (IsChanged l.change) l.fn.lists.items l.rows-iterator.rest.items l.made.items;
}
