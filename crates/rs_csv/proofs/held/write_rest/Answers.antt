use Rattle.std.proofs.Common.{◌∙◌, append-nil, subst}
use Rattle.std.specs.Io.KnownBytes.{Appends}
use Rattle.rs_protocol.specs.Puts.{PutsBut}
use Rattle.rs_csv.specs.Output.{table_of}
use Rattle.rs_csv.proofs.Outputs.{stays_quiet}
use Rattle.rs_csv.proofs.Taking.{lost_held, lost_routes, taken_front, wrote_routed, wrote_sent}
use Rattle.rs_csv.proofs.held.write_rest.Goals as goal

pub returns-then-not-job-clause-wrote : goal.returns-then-not-job-clause-wrote
returns-then-not-job-clause-wrote g c = λ before raws taken. wrote_sent c.args.job.now.wanted (table_of c.args.job.now.definition) c.args.progress.now raws before _ (rw (← c.job.view_is) c.if-not-job.true) taken

pub returns-in-Err-clause-wrote : goal.returns-in-Err-clause-wrote
returns-in-Err-clause-wrote g c = λ before raws taken. taken_front c.args.job.now.wanted (table_of c.args.job.now.definition) c.args.progress.now raws before _ taken

pub returns-in-Err-put_parts-clause-wrote : goal.returns-in-Err-put_parts-clause-wrote
returns-in-Err-put_parts-clause-wrote g c = λ before raws taken.
    let output = g.W.Write.contents c.args.output.now in
    let later = g.W.Write.contents c.put_parts.new.writer in
    let fault = c.in-Err-put_parts.ensures.1 in
    lost_routes c.args.job.now.wanted (table_of c.args.job.now.definition) c.args.progress.now raws c.in-Ok.routes.items before output (rw (← c.job.view_is) c.if-not-job.false) c.in-Ok.ensures.lines taken fault.0 later
    (subst (λ bytes. PutsBut bytes fault.0 output later) (append-nil c.as_slice.result.now ∙ c.as_slice.ensures.value) fault.2)

pub returns-in-Ok-write_held-clause-wrote : goal.returns-in-Ok-write_held-clause-wrote
returns-in-Ok-write_held-clause-wrote g c = λ before raws taken.
    let middle = g.W.Write.contents c.put_parts.new.writer in
    let after = g.W.Write.contents c.write_held.new.output in
    wrote_routed c.args.job.now.wanted (table_of c.args.job.now.definition) c.args.progress.now raws c.in-Ok.routes.items before (g.W.Write.contents c.args.output.now) (rw (← c.job.view_is) c.if-not-job.false) c.in-Ok.ensures.lines taken
    c.route_lines.new.made.has_told middle after (stays_quiet c.args.progress.now.made.has_told c.route_lines.new.made.has_told _ _ c.in-Ok.ensures.quiet)
    (subst (Appends (g.W.Write.contents c.args.output.now) middle) (append-nil c.as_slice.result.now ∙ c.as_slice.ensures.value) c.in_default.ensures)
    c.in-Ok-write_held.ensures.sent

pub returns-clause-wrote : goal.returns-clause-wrote
returns-clause-wrote g c = λ before raws taken.
    let middle = g.W.Write.contents c.put_parts.new.writer in
    let after = g.W.Write.contents c.write_held.new.output in
    let fault = c.in-Err-write_held.ensures.fault in
    lost_held c.args.job.now.wanted (table_of c.args.job.now.definition) c.args.progress.now raws c.in-Ok.routes.items before (g.W.Write.contents c.args.output.now) (rw (← c.job.view_is) c.if-not-job.false) c.in-Ok.ensures.lines taken
    fault.0 middle after
    (subst (Appends (g.W.Write.contents c.args.output.now) middle) (append-nil c.as_slice.result.now ∙ c.as_slice.ensures.value) c.in_default.ensures)
    fault.1
