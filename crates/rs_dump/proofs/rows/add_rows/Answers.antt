-- One line after another.
use Rattle.std.proofs.Common.{◌+◌, ◌++◌, ℕ, List, [], ◌∷◌, ap, arith, subst, sym}
use Rattle.rs_dump.specs.Sections.{rows_on}
use Rattle.rs_dump.specs.Written.{AddedSome, lines_bytes}
use Rattle.rs_dump_laws.specs.Dump.{location_of}
use Rattle.rs_facts.specs.Runs.{Stretch}
use Rattle.rs_syntax.specs.Tree.{CommandTree, insert}
use Rattle.rs_table_reads.specs.Events.{LendsNext, spans_left}
use Rattle.rs_value.specs.Encoding.{SaysRow}
use Rattle.rs_value.specs.declared.column.ColumnType.{ColumnType}
use Rattle.rs_dump.proofs.Gathered.{added_chunk, added_first, all_added, held_as, stops_added}
use Rattle.rs_dump.proofs.SpanLines.{line_of_span}
use Rattle.rs_dump.proofs.Stops.{front_as, passed_on}
use Rattle.rs_dump.proofs.rows.add_rows.Goals.{in-Some+in_ok-add_row, in_default}
use Rattle.rs_dump.proofs.rows.add_rows.Goals as goal

pub loop-place-init : goal.loop-place-init
loop-place-init g c = λ table route spans is says.
    let lines : List Stretch → List CommandTree = rows_on table route c.args.kind in
    added_first c.args.piece.now.items (lines spans) (lines (spans_left c.args.found.now.window says.events 0)) (g.W.Write.contents c.args.output.now) (ap lines (sym says.are))

pub loop-place-preserved : goal.loop-place-preserved
loop-place-preserved g c = λ table route spans is says.
    let kind = c.args.kind in
    let found = c.args.found.now in
    let types = found.schema.items in
    let place = c.loop-place.place in
    let piece = c.loop-place.piece.items in
    let lines : List Stretch → List CommandTree = rows_on table route kind in
    let left : ℕ → List Stretch = spans_left found.window says.events in
    let so = c.loop-place.invariant table route spans is says in
    let first = g.W.Write.contents c.args.output.now in
    let before = g.W.Write.contents c.loop-place.output in
    elim c.match-span_at.branch [
      | in-Some+in_ok-add_row w ↦
          let next = (w.in-Some.ensures.lends says.events says.say).lent in
          let span = next.0 in
          let tree = insert table route (location_of kind span) span.row in
          let row = subst (λ (t : List ColumnType). SaysRow t w.in-Some.span.row.now span.row) (sym w.columns.ensures) next.2.row in
          let then = w.add_row.new.piece.items in
          let after = g.W.Write.contents w.add_row.new.output in
          rw (w.piece-is, w.output-is)
          (added_chunk c.args.piece.now.items (lines spans) (lines (left place)) (lines (left (place + 1))) (tree ∷ []) piece then first before after (ap lines next.1) so
          (held_as _ (piece ++ lines_bytes (tree ∷ [])) then before after (line_of_span types kind table route w.in-Some.span span next.2 piece) (w.in_ok-add_row.ensures.line table route span.row is row)))
      | in_default w ↦
          let next = subst (LendsNext types found.window says.events place) w.in_default.is (c.span_at.ensures.lends says.events says.say) in
          rw (w.piece-is, w.output-is) (subst (λ (trees : List CommandTree). AddedSome c.args.piece.now.items (lines spans) trees piece first before) (ap lines next.passed) so)
    ]

pub returns-clause-lines : goal.returns-clause-lines
returns-clause-lines g c = λ table route spans is says.
    let lines : List Stretch → List CommandTree = rows_on table route c.args.kind in
    let none = c.len-place-end.ensures.none_left says.events says.say c.loop-place.place (omega (arith, c.loop-place-test.false)) in
    all_added c.args.piece.now.items (lines spans) (lines (spans_left c.args.found.now.window says.events c.loop-place.place)) c.loop-place.piece.items
    (g.W.Write.contents c.args.output.now) (g.W.Write.contents c.loop-place.output) (ap lines none) (c.loop-place.invariant table route spans is says)

pub returns-in_err-add_row-clause-lines : goal.returns-in_err-add_row-clause-lines
returns-in_err-add_row-clause-lines g c = λ table route spans is says.
    let kind = c.args.kind in
    let found = c.args.found.now in
    let types = found.schema.items in
    let place = c.loop-place.place in
    let piece = c.loop-place.piece.items in
    let lines : List Stretch → List CommandTree = rows_on table route kind in
    let left : ℕ → List Stretch = spans_left found.window says.events in
    let next = (c.in-Some.ensures.lends says.events says.say).lent in
    let span = next.0 in
    let tree = insert table route (location_of kind span) span.row in
    let row = subst (λ (t : List ColumnType). SaysRow t c.in-Some.span.row.now span.row) (sym c.columns.ensures) next.2.row in
    let stop = c.in_err-add_row.field-0.0 in
    let first = g.W.Write.contents c.args.output.now in
    let before = g.W.Write.contents c.loop-place.output in
    let after = g.W.Write.contents c.add_row.new.output in
    passed_on c.from_residual.result stop _ _ c.from_residual.ensures.1
    (stops_added c.args.piece.now.items (lines spans) stop (lines (left place)) (lines (left (place + 1))) (tree ∷ []) piece first before after (ap lines next.1)
    (c.loop-place.invariant table route spans is says)
    (front_as stop _ (piece ++ lines_bytes (tree ∷ [])) before after (line_of_span types kind table route c.in-Some.span span next.2 piece) (c.in_err-add_row.ensures.line table route span.row is row)))
