-- One cell after the other.
use Rattle.std.proofs.Common.{◌≡◌, ◌+◌, ◌∙◌, [], ◌∷◌, ◌++◌, map, take, sym, ap, subst, inl, inr}
use Rattle.std.proofs.lemmas.List.{map-append}
use Rattle.std.proofs.lemmas.Result.{err_from_is_err_and}
use Rattle.std.specs.List.{AllByRecursion}
use Rattle.rs_facts.specs.Runs.{Stretch}
use Rattle.rs_facts.specs.Spans.{seen}
use Rattle.rs_records.specs.Listed.{listed}
use Rattle.rs_versioned.proofs.CellsWide.{cell_wide}
use Rattle.rs_value.specs.Values.{IsRowOf}
use Rattle.rs_table_changes.specs.Picked.{Picks}
use Rattle.rs_facts.proofs.Rows.{same_row, same_row-apart, same_row-equal}
use Rattle.rs_table_changes.proofs.PickLaws.{all_more, none_at, picks_more, picks_same, row_said}
use Rattle.std.proofs.lemmas.Bool.{false≢true}
use Rattle.rs_table_changes.proofs.picking.of_row.Goals.{then-same_row+in_ok-push+in_ok-push-2, else-same_row+in-Heap-1, else-same_row+in-Inline-1}
use Rattle.rs_table_changes.proofs.picking.of_row.Goals as goal

pub span_of-requires : goal.span_of-requires
span_of-requires c = record { width = cell_wide c.args.found.now c.loop-place.place c.get-cell.result.now c.get-cell.ensures ∙ c.requires.width }

pub returns-in_err-span-clause-refused : goal.returns-in_err-span-clause-refused
returns-in_err-span-clause-refused c =
    let p = err_from_is_err_and c.from_residual.result c.from_residual.ensures.1 in
    rw (p.1, p.2) (elim c.in_err-span.ensures.refused [
      | inl memory ↦ inl memory
      | inr damaged ↦ inr (damaged.0, none_at c.args.schema.now.items (listed c.args.found.now) c.loop-place.place c.get-cell.result.now c.get-cell.ensures damaged.1)
    ])

pub push-requires : goal.push-requires
push-requires c = cell_wide c.args.found.now c.loop-place.place c.get-cell.result.now c.get-cell.ensures ∙ sym c.loop-place.invariant.width

pub loop-place-preserved : goal.loop-place-preserved
loop-place-preserved c =
    let types = c.args.schema.now.items in
    let found = listed c.args.found.now in
    let cell = c.get-cell.result.now in
    let span = c.in_ok-span.span in
    let place = c.loop-place.place in
    let so = c.loop-place.invariant in
    elim c.if-same_row.branch [
      | then-same_row+in_ok-push+in_ok-push-2 w ↦
          let are : map seen w.push-then-same_row.new.self.items ≡ map seen c.loop-place.spans.items ++ seen span ∷ [] =
          ap (map seen) w.in_ok-push-2.ensures.items ∙ map-append seen c.loop-place.spans.items (span ∷ []) in
          let picks = picks_more types (λ other. same_row other c.args.row.now) found place cell (listed c.loop-place.cells) (map seen c.loop-place.spans.items) c.get-cell.ensures (seen span) c.in_ok-span.ensures.span so.picks (same_row-equal (seen span).row c.args.row.now (c.same_row.ensures.0 w.if-same_row.true)) in
          rw (w.cells-is, w.spans-is) (record {
            picks = subst (λ l. Picks types (λ other. same_row other c.args.row.now) (take (place + 1) found) l (map seen w.push-then-same_row.new.self.items)) (sym w.in_ok-push.ensures.pushed)
                (subst (Picks types (λ other. same_row other c.args.row.now) (take (place + 1) found) (listed c.loop-place.cells ++ cell ∷ [])) (sym are) picks);
            rows = subst (AllByRecursion (λ (s : Stretch). IsRowOf types s.row)) (sym are)
                (all_more (λ (s : Stretch). IsRowOf types s.row) (map seen c.loop-place.spans.items) (seen span) so.rows (row_said types cell (seen span) c.in_ok-span.ensures.said c.in_ok-span.ensures.span));
            width = w.in_ok-push.ensures.width ∙ so.width;
          })
      | else-same_row+in-Heap-1 w ↦ rw (w.cells-is, w.spans-is) (record {
        picks = picks_same types (λ other. same_row other c.args.row.now) found place cell (listed c.loop-place.cells) (map seen c.loop-place.spans.items) c.get-cell.ensures (seen span) c.in_ok-span.ensures.span so.picks (same_row-apart (seen span).row c.args.row.now (λ e. false≢true (sym w.if-same_row.false ∙ c.same_row.ensures.1 e)));
        rows = so.rows;
        width = so.width;
      })
      | else-same_row+in-Inline-1 w ↦ rw (w.cells-is, w.spans-is) (record {
        picks = picks_same types (λ other. same_row other c.args.row.now) found place cell (listed c.loop-place.cells) (map seen c.loop-place.spans.items) c.get-cell.ensures (seen span) c.in_ok-span.ensures.span so.picks (same_row-apart (seen span).row c.args.row.now (λ e. false≢true (sym w.if-same_row.false ∙ c.same_row.ensures.1 e)));
        rows = so.rows;
        width = so.width;
      })
    ]
