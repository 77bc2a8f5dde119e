use Rattle.std.proofs.Common.{◌≡◌, ◌+◌, ◌≤◌, map, take}
use Rattle.rs_facts.specs.LineText.{line_of}
use Rattle.rs_facts.specs.Spans.{seen}
use Rattle.rs_answers.specs.Portions.{room_of}
use Rattle.rs_answers.specs.Printed.{printed_by}
use Rattle.rs_serve.specs.ReplyView.{rows_of}
use Rattle.rs_answers.proofs.row_text.lines_within.Given as goal

abbrev pub invariant-loop-run : goal.invariant-loop-run
invariant-loop-run l = record {
  lines : rows_of l.lines.items ≡ map (line_of (printed_by l.printer) l.kind l.printer.name.now.bytes) (map seen (take l.run-index l.runs));
  room : room_of l.lines.items + l.left ≤ l.room;
}
