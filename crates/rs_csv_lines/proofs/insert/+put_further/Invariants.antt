use Rattle.std.proofs.Common.{length}
use Rattle.rs_csv_lines.proofs.insert.+put_further.Given as goal

abbrev pub decreases-put_further : goal.decreases-put_further
decreases-put_further l = length l.columns.now
