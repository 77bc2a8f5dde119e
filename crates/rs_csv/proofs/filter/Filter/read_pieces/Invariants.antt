use Rattle.std.proofs.Common.{◌≡◌, ℕ, List, ◌≤◌, length}
use Rattle.std.specs.Io.KnownBytes.{Consumes}
use Rattle.csv.specs.Reading.{strip_bom}
use Rattle.rs_csv.specs.Output.{IsQuiet, SoFar, table_of}
use Rattle.rs_csv.proofs.filter.Filter.read_pieces.Given as goal

abbrev pub invariant-pieces : goal.invariant-pieces
invariant-pieces g l = record {
  job : l.self.job ≡ l.fn.self.job;
  far : (told : List ℕ) × Consumes (g.R.Read.remaining l.fn.input) (g.R.Read.remaining l.input) told × (3 ≤ length told)
      × SoFar l.fn.self.job.wanted (table_of l.fn.self.job.definition) (g.W.Write.contents l.fn.output) l.batch l.self.progress (strip_bom told) (g.W.Write.contents l.output);
  quiet : IsQuiet l.fn.self.progress.made.has_told l.self.progress.made.has_told (g.E.Write.contents l.fn.errors) (g.E.Write.contents l.errors);
}
