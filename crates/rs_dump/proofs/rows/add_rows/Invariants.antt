-- The lines so far, and those that are left.
use Rattle.std.proofs.Common.{◌≡◌, ℕ, List}
use Rattle.rs_dump.specs.Sections.{rows_on}
use Rattle.rs_dump.specs.Written.{AddedSome}
use Rattle.rs_dump_lines.specs.Texts.{row_front}
use Rattle.rs_facts.specs.Runs.{Stretch}
use Rattle.rs_table_reads.specs.Events.{SaysSpans, spans_left}
use Rattle.rs_dump.proofs.rows.add_rows.Given as goal

abbrev pub invariant-loop-place : goal.invariant-loop-place
invariant-loop-place g l = (table route : List ℕ) (spans : List Stretch) → l.front ≡ row_front l.kind table route → (says : SaysSpans l.found spans)
    → AddedSome l.fn.piece.items (rows_on table route l.kind spans) (rows_on table route l.kind (spans_left l.found.window says.events l.place)) l.piece.items
    (g.W.Write.contents l.fn.output) (g.W.Write.contents l.output)
