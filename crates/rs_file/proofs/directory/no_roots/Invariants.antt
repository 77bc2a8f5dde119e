-- The slots so far say that there is no root.
use Rattle.std.proofs.Common.{◌≡◌, length}
use Rattle.std.specs.List.{AllByRecursion}
use Rattle.rs_file.proofs.directory.no_roots.Given as goal

abbrev pub invariant-loop : goal.invariant-loop
invariant-loop l = record { many : length l.roots.items ≡ l.counter; none : AllByRecursion (λ root. root.root ≡ 0) l.roots.items }
