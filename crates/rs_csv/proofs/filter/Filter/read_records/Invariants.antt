use Rattle.std.proofs.Common.{◌≡◌, ℕ, List, Some}
use Rattle.rs_csv.specs.Output.{IsQuiet, Makes, table_of}
use Rattle.rs_csv.proofs.Readers.{HasRead}
use Rattle.rs_csv.proofs.filter.Filter.read_records.Given as goal

abbrev pub invariant-records : goal.invariant-records
invariant-records g l = record {
  job : l.self.job ≡ l.fn.self.job;
  made : (records : List (List (List ℕ))) × HasRead (λ s. Some s.now) l.fn.self.job.wanted.separator l.text records l.reader × Makes l.fn.self.job.wanted (table_of l.fn.self.job.definition) records l.fn.self.progress l.self.progress;
  held : l.self.progress.held ≡ l.fn.self.progress.held;
  quiet : IsQuiet l.fn.self.progress.made.has_told l.self.progress.made.has_told (g.E.Write.contents l.fn.errors) (g.E.Write.contents l.errors);
}
