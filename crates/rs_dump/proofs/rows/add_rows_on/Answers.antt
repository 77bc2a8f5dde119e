-- What was read is added, or what was held back is written.
use Rattle.rs_dump.specs.declared.stop.Stop.TheVariants.{Refused}
use Rattle.rs_refusal.specs.declared.refusal.Refusal.TheVariants.{OutOfMemory}
use Rattle.rs_dump.proofs.Reading.{reads_next, reads_nothing}
use Rattle.rs_dump.proofs.Stops.{front_of_more, nothing_out, passed_on}
use Rattle.rs_dump.proofs.rows.add_rows_on.Goals as goal

pub returns-in_err-push_row_front-in-Ok-clause-reads : goal.returns-in_err-push_row_front-in-Ok-clause-reads
returns-in_err-push_row_front-in-Ok-clause-reads g c =
    let read = c.found_events.ensures in
    reads_next g.H.Held c.args.held.now c.args.held.now c.found_events.new.self (reads_nothing g.H.Held c.args.held.now) read.catalog read.referents read.shows read.passes

pub returns-in_err-push_row_front-in-Ok-clause-lines : goal.returns-in_err-push_row_front-in-Ok-clause-lines
returns-in_err-push_row_front-in-Ok-clause-lines g c = λ shown shows.
    passed_on c.from_residual.result (Refused OutOfMemory) _ _ c.from_residual.ensures.1 (nothing_out OutOfMemory _ (g.W.Write.contents c.args.output.now))

pub returns-in_ok-push_row_front-in-Ok-clause-reads : goal.returns-in_ok-push_row_front-in-Ok-clause-reads
returns-in_ok-push_row_front-in-Ok-clause-reads g c =
    let read = c.found_events.ensures in
    reads_next g.H.Held c.args.held.now c.args.held.now c.found_events.new.self (reads_nothing g.H.Held c.args.held.now) read.catalog read.referents read.shows read.passes

pub returns-in_err-put_piece-in-Err-clause-reads : goal.returns-in_err-put_piece-in-Err-clause-reads
returns-in_err-put_piece-in-Err-clause-reads g c =
    let read = c.found_events.ensures in
    reads_next g.H.Held c.args.held.now c.args.held.now c.found_events.new.self (reads_nothing g.H.Held c.args.held.now) read.catalog read.referents read.shows read.passes

pub returns-in_err-put_piece-in-Err-clause-lines : goal.returns-in_err-put_piece-in-Err-clause-lines
returns-in_err-put_piece-in-Err-clause-lines g c = λ shown shows.
    let stop = c.in_err-put_piece-in-Err.field-0.0 in
    passed_on c.from_residual-in_err-put_piece-in-Err.result stop _ _ c.from_residual-in_err-put_piece-in-Err.ensures.1
    (front_of_more stop c.args.piece.now.items _ (g.W.Write.contents c.args.output.now) (g.W.Write.contents c.put_piece.new.output) c.in_err-put_piece-in-Err.ensures.puts.1)

pub returns-in_ok-put_piece-in-Err-clause-reads : goal.returns-in_ok-put_piece-in-Err-clause-reads
returns-in_ok-put_piece-in-Err-clause-reads g c =
    let read = c.found_events.ensures in
    reads_next g.H.Held c.args.held.now c.args.held.now c.found_events.new.self (reads_nothing g.H.Held c.args.held.now) read.catalog read.referents read.shows read.passes
