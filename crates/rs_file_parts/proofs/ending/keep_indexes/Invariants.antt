-- The first indexes so far.
use Rattle.rs_file_parts.specs.Inner.{IsIndexKept}
use Rattle.rs_file_parts.proofs.Lists.{Partly}
use Rattle.rs_file_parts.proofs.ending.keep_indexes.Given as goal

abbrev pub invariant-loop-place : goal.invariant-loop-place
invariant-loop-place l = Partly IsIndexKept l.place l.fn.indexes l.indexes
