-- The line and its LF are held back, or written with what was.
use Rattle.std.proofs.Common.{◌++◌}
use Rattle.rs_dump.specs.Written.{line_bytes}
use Rattle.rs_dump.specs.declared.stop.Stop.TheVariants.{Refused}
use Rattle.rs_dump_laws.specs.Dump.{location_of}
use Rattle.rs_facts.specs.Runs.{stretch}
use Rattle.rs_refusal.specs.declared.refusal.Refusal.TheVariants.{OutOfMemory}
use Rattle.rs_syntax.specs.Tree.{insert}
use Rattle.rs_dump.proofs.Gathered.{held_as, held_back}
use Rattle.rs_dump.proofs.Stops.{nothing_out, passed_on}
use Rattle.rs_dump.proofs.rows.add_row.Goals as goal

pub returns-in_err-push_row_backwards-clause-line : goal.returns-in_err-push_row_backwards-clause-line
returns-in_err-push_row_backwards-clause-line g c = λ table route said is says.
    passed_on c.from_residual.result (Refused OutOfMemory) _ _ c.from_residual.ensures.1 (nothing_out OutOfMemory _ (g.W.Write.contents c.args.output.now))

pub returns-then-len-lt-PIECE_BYTES-clause-line : goal.returns-then-len-lt-PIECE_BYTES-clause-line
returns-then-len-lt-PIECE_BYTES-clause-line g c = λ table route said is says.
    let tree = insert table route (location_of c.args.kind (stretch c.args.row.now.lo c.args.row.now.hi said)) said in
    let piece = c.args.piece.now.items in
    let output = g.W.Write.contents c.args.output.now in
    let now = c.push_row_backwards.new.text.items in
    held_as now (piece ++ line_bytes tree) now output output (c.in_ok-push_row_backwards.ensures table route said is says) (held_back now output)
