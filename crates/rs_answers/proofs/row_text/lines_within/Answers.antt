use Rattle.std.proofs.Common.{ap, map, sym, ◌∙◌}
use Rattle.std.proofs.lemmas.List.{take-map}
use Rattle.rs_answers.proofs.Starts.{start-taken}
use Rattle.rs_answers.proofs.row_text.lines_within.Goals as goal
use Rattle.rs_answers.specs.Printed.{printed_by}
use Rattle.rs_facts.specs.LineText.{line_of}
use Rattle.rs_facts.specs.Spans.{seen}
use Rattle.rs_serve.specs.ReplyView.{rows_of}

pub returns-clause-lines : goal.returns-clause-lines
returns-clause-lines c =
    let line = line_of (printed_by c.args.printer.now) c.args.kind c.args.printer.now.name.now.bytes in
    let runs = c.args.runs.now in
    let index = c.loop-run.run-index in
    start-taken (rows_of c.loop-run.lines.items) (map line (map seen runs)) index
    (c.loop-run.invariant.lines ∙ sym (take-map line index (map seen runs) ∙ ap (map line) (take-map seen index runs)))
