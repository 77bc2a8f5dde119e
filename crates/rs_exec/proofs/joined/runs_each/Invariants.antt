use Rattle.std.proofs.Common.{◌≡◌, length}
use Rattle.std.specs.List.{AllByRecursion}
use Rattle.rs_exec.specs.Joined.{HasRuns, IsOfKind}
use Rattle.rs_exec.proofs.Lists.{Zips}
use Rattle.rs_exec.proofs.joined.runs_each.Given as goal

abbrev pub invariant-loop-rows : goal.invariant-loop-rows
invariant-loop-rows l = record {
  counted : length l.rows-iterator.rest.items ≡ l.rows-iterator.rest.len;
  placed : AllByRecursion (IsOfKind l.kind) l.rows-iterator.rest.items;
  joined : Zips (HasRuns l.kind) l.fn.lists.items l.rows-iterator.rest.items l.made.items;
}
