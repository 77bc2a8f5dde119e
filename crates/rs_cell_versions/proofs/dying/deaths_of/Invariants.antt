-- The deaths of the cells so far.
use Rattle.std.proofs.Common.{◌≡◌}
use Rattle.rs_records.specs.Listed.{listed}
use Rattle.rs_cell_versions.proofs.Deaths.{deaths_upto}
use Rattle.rs_cell_versions.proofs.dying.deaths_of.Given as goal

abbrev pub invariant-loop-place : goal.invariant-loop-place
invariant-loop-place l = l.deaths.items ≡ deaths_upto (listed l.cells) l.place
