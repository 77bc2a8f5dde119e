-- The first indexes so far.
use Rattle.rs_file_parts.specs.Inner.{IsIndexTakenBack}
use Rattle.rs_file_parts.proofs.Lists.{Partly}
use Rattle.rs_file_parts.proofs.ending.take_back_indexes.Given as goal

abbrev pub invariant-loop-place : goal.invariant-loop-place
invariant-loop-place l = Partly IsIndexTakenBack l.place l.fn.indexes l.indexes
