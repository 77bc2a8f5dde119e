use Rattle.std.proofs.Common.{◌-◌}
use Rattle.std.specs.Io.KnownBytes.{Consumes}
use Rattle.arrayvec.specs.ArrayVec.{array_vec_len}
use Rattle.rs_csv.proofs.head.read_head.Given as goal

abbrev pub invariant-bytes : goal.invariant-bytes
invariant-bytes g l = Consumes (g.R.Read.remaining l.fn.input) (g.R.Read.remaining l.input) l.head.items

abbrev pub decreases-bytes : goal.decreases-bytes
decreases-bytes g l = 3 - array_vec_len l.head
