-- The places of the runs so far.
use Rattle.std.proofs.Common.{◌≤◌, ◌*◌}
use Rattle.rs_file_parts.specs.Inner.{HaveChangedWithin}
use Rattle.rs_file_parts.proofs.looking.changed_places.Given as goal

abbrev pub invariant-loop-run : goal.invariant-loop-run
invariant-loop-run l = record { changed : HaveChangedWithin l.places.from l.places.to (l.run * 8) l.tables; inside : l.run ≤ l.runs }
