-- One cell after the other.
use Rattle.std.proofs.Common.{◌≡◌, ◌+◌, ◌∙◌, [], ◌∷◌, ◌++◌, map, take, sym, ap, subst, inl, inr}
use Rattle.std.proofs.lemmas.List.{map-append}
use Rattle.std.proofs.lemmas.Result.{err_from_is_err_and}
use Rattle.std.specs.List.{AllByRecursion}
use Rattle.rs_facts.specs.Runs.{Stretch}
use Rattle.rs_facts.specs.Spans.{seen}
use Rattle.rs_records.specs.Listed.{listed}
use Rattle.rs_versioned.proofs.CellsWide.{cell_wide}
use Rattle.rs_value.specs.Values.{IsRowOf}
use Rattle.rs_table_changes.specs.Picked.{Picks}
use Rattle.rs_spans.specs.Removal.{goes_by}
use Rattle.rs_table_changes.proofs.PickLaws.{all_more, none_at, picks_more, picks_same, row_said}
use Rattle.std.specs.Option.{option_copied}
use Rattle.rs_table_changes.proofs.picking.going.Goals.{then-is_going+in_ok-push+in_ok-push-2, else-is_going+in-Heap-1, else-is_going+in-Inline-1}
use Rattle.rs_table_changes.proofs.picking.going.Goals as goal

pub span_of-requires : goal.span_of-requires
span_of-requires c = record { width = cell_wide c.args.found.now c.loop-place.place c.get-cell.result.now c.get-cell.ensures ∙ c.requires.width }

pub returns-in_err-span-clause-refused : goal.returns-in_err-span-clause-refused
returns-in_err-span-clause-refused c =
    let p = err_from_is_err_and c.from_residual.result c.from_residual.ensures.1 in
    rw (p.1, p.2) (elim c.in_err-span.ensures.refused [
      | inl memory ↦ inl memory
      | inr damaged ↦ inr (damaged.0, none_at c.args.schema.now.items (listed c.args.found.now) c.loop-place.place c.get-cell.result.now c.get-cell.ensures damaged.1)
    ])

pub push-requires : goal.push-requires
push-requires c = cell_wide c.args.found.now c.loop-place.place c.get-cell.result.now c.get-cell.ensures ∙ sym c.loop-place.invariant.width

pub loop-place-preserved : goal.loop-place-preserved
loop-place-preserved c =
    let types = c.args.schema.now.items in
    let found = listed c.args.found.now in
    let cell = c.get-cell.result.now in
    let span = c.in_ok-span.span in
    let place = c.loop-place.place in
    let so = c.loop-place.invariant in
    elim c.if-is_going.branch [
      | then-is_going+in_ok-push+in_ok-push-2 w ↦
          let are : map seen w.push-then-is_going.new.self.items ≡ map seen c.loop-place.spans.items ++ seen span ∷ [] =
          ap (map seen) w.in_ok-push-2.ensures.items ∙ map-append seen c.loop-place.spans.items (span ∷ []) in
          let picks = picks_more types (goes_by (option_copied c.args.goes)) found place cell (listed c.loop-place.cells) (map seen c.loop-place.spans.items) c.get-cell.ensures (seen span) c.in_ok-span.ensures.span so.picks (sym c.is_going.ensures ∙ w.if-is_going.true) in
          rw (w.cells-is, w.spans-is) (record {
            picks = subst (λ l. Picks types (goes_by (option_copied c.args.goes)) (take (place + 1) found) l (map seen w.push-then-is_going.new.self.items)) (sym w.in_ok-push.ensures.pushed)
                (subst (Picks types (goes_by (option_copied c.args.goes)) (take (place + 1) found) (listed c.loop-place.cells ++ cell ∷ [])) (sym are) picks);
            rows = subst (AllByRecursion (λ (s : Stretch). IsRowOf types s.row)) (sym are)
                (all_more (λ (s : Stretch). IsRowOf types s.row) (map seen c.loop-place.spans.items) (seen span) so.rows (row_said types cell (seen span) c.in_ok-span.ensures.said c.in_ok-span.ensures.span));
            width = w.in_ok-push.ensures.width ∙ so.width;
          })
      | else-is_going+in-Heap-1 w ↦ rw (w.cells-is, w.spans-is) (record {
        picks = picks_same types (goes_by (option_copied c.args.goes)) found place cell (listed c.loop-place.cells) (map seen c.loop-place.spans.items) c.get-cell.ensures (seen span) c.in_ok-span.ensures.span so.picks (sym c.is_going.ensures ∙ w.if-is_going.false);
        rows = so.rows;
        width = so.width;
      })
      | else-is_going+in-Inline-1 w ↦ rw (w.cells-is, w.spans-is) (record {
        picks = picks_same types (goes_by (option_copied c.args.goes)) found place cell (listed c.loop-place.cells) (map seen c.loop-place.spans.items) c.get-cell.ensures (seen span) c.in_ok-span.ensures.span so.picks (sym c.is_going.ensures ∙ w.if-is_going.false);
        rows = so.rows;
        width = so.width;
      })
    ]
