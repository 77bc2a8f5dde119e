use Rattle.std.proofs.Common.{◌≡◌, ◌≤◌, ◌-◌, ℕ, List, ◌++◌, Option, length, take}
use Rattle.rs_csv.specs.Output.{IsQuiet, SoFar, table_of}
use Rattle.rs_csv.proofs.filter.Filter.take_piece.Given as goal

abbrev pub decreases-bytes : goal.decreases-bytes
decreases-bytes g l = length l.piece - l.at

abbrev pub invariant-bytes : goal.invariant-bytes
invariant-bytes g l = record {
  job : l.self.job ≡ l.fn.self.job;
  within : l.at ≤ length l.piece;
  far : (before : Option (List ℕ)) (input : List ℕ) → SoFar l.fn.self.job.wanted (table_of l.fn.self.job.definition) before l.fn.batch l.fn.self.progress input (g.W.Write.contents l.fn.output)
      → SoFar l.fn.self.job.wanted (table_of l.fn.self.job.definition) before l.batch l.self.progress (input ++ take l.at l.piece) (g.W.Write.contents l.output);
  quiet : IsQuiet l.fn.self.progress.made.has_told l.self.progress.made.has_told (g.E.Write.contents l.fn.errors) (g.E.Write.contents l.errors);
}
