-- None of the indexes so far has changed.
use Rattle.std.proofs.Common.{◌≡◌, take}
use Rattle.std.specs.List.{AllByRecursion}
use Rattle.rs_attr.specs.Tables.{IndexState}
use Rattle.rs_file_parts.proofs.looking.has_changed.Given as goal

abbrev pub invariant-loop-index : goal.invariant-loop-index
invariant-loop-index l = AllByRecursion (λ (index : IndexState). index.committed ≡ index.working) (take l.index-index l.indexes)
