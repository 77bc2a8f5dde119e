-- The columns are distinct just where those that are left are.
use Rattle.std.proofs.Common.{drop, ◌↔◌}
use Rattle.rs_catalog_meaning.proofs.TableLaws.{Distinct}
use Rattle.rs_catalog_meaning.proofs.tables.are_distinct.Given as goal

abbrev pub invariant-loop-place : goal.invariant-loop-place
invariant-loop-place l = Distinct l.columns ↔ Distinct (drop l.place l.columns)
