-- The places so far.
use Rattle.std.proofs.Common.{◌≤◌}
use Rattle.rs_file_parts.specs.Inner.{HaveChangedWithin}
use Rattle.rs_file_parts.proofs.looking.with_changed.Given as goal

abbrev pub invariant-loop-place : goal.invariant-loop-place
invariant-loop-place l = record { changed : HaveChangedWithin l.places.from l.places.to l.place l.tables; inside : l.place ≤ l.to }
