-- The first tables so far.
use Rattle.std.proofs.Common.{◌≡◌}
use Rattle.rs_file_parts.specs.Inner.{IsTableTakenBack}
use Rattle.rs_file_parts.proofs.Lists.{Partly}
use Rattle.rs_file_parts.proofs.ending.take_back.Given as goal

abbrev pub invariant-loop-place : goal.invariant-loop-place
invariant-loop-place l = record {
  tables : Partly IsTableTakenBack l.place l.fn.file.tables.items l.file.tables.items;
  definitions : l.file.definitions ≡ l.fn.file.definitions;
  pages : l.file.pages ≡ l.fn.file.pages;
  referents : l.file.referents ≡ l.fn.file.referents;
  accepted : l.file.accepted ≡ l.fn.file.accepted;
}
