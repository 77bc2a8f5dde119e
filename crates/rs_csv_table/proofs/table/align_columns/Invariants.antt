use Rattle.std.proofs.Common.{◌≡◌, ℕ, List, Some}
use Rattle.rs_csv_table.specs.Fields.{Record}
use Rattle.rs_csv_table.specs.Records.{records_of}
use Rattle.rs_csv_table.specs.Steps.{SoFar}
use Rattle.rs_csv_table.proofs.Readers.{HasRead}
use Rattle.rs_csv_table.proofs.table.align_columns.Given as goal

-- the records that were read are held or written
abbrev pub invariant-loop : goal.invariant-loop
invariant-loop g l = (read : List Record) × SoFar read (records_of l.held.items) (g.W.Write.contents l.fn.output) (g.W.Write.contents l.output)
    × ((bytes : List ℕ) → g.R.Read.remaining l.fn.input ≡ Some bytes → HasRead (λ input. g.R.Read.remaining input.now) l.separator bytes read l.reader)
