use Rattle.std.proofs.Common.{◌≡◌, ◌++◌, map, take}
use Rattle.rs_facts.specs.LineText.{line_of}
use Rattle.rs_facts.specs.Spans.{seen}
use Rattle.rs_answers.specs.Printed.{printed_by}
use Rattle.rs_serve.specs.ReplyView.{rows_of}
use Rattle.rs_answers.proofs.row_text.push_lines.Given as goal

abbrev pub invariant-loop-run : goal.invariant-loop-run
invariant-loop-run l = rows_of l.rows.items ≡ rows_of l.initial.rows.items ++ map (line_of (printed_by l.printer) l.kind l.printer.name.now.bytes) (map seen (take l.run-index l.runs))
