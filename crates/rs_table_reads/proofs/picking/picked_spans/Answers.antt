-- One cell after the other, each without the bytes in front of it.
use Rattle.std.proofs.Common.{◌≡◌, ◌+◌, ◌-◌, ◌∙◌, Some, List, [], ◌∷◌, ◌++◌, drop, length, map, slice_get, take, sym, ap, subst, inl, inr, arith}
use Rattle.std.proofs.lemmas.List.{length-drop, map-append}
use Rattle.std.proofs.lemmas.Result.{err_from_is_err_and}
use Rattle.std.specs.List.{AllByRecursion}
use Rattle.std.specs.Prelude.{IfSome, Option}
use Rattle.rs_facts.specs.Runs.{Stretch}
use Rattle.rs_facts.specs.Spans.{ArePlaced, IsPlaced, seen}
use Rattle.rs_facts.specs.declared.fact.Span.{Span}
use Rattle.rs_records.specs.Listed.{listed}
use Rattle.rs_tree.proofs.Lists.{map_at}
use Rattle.rs_value.specs.Values.{IsRowOf}
use Rattle.rs_versioned.proofs.CellsWide.{cell_wide}
use Rattle.rs_table_reads.specs.Picked.{PicksOne, PicksSpans}
use Rattle.rs_table_reads.proofs.Picks.{all_more, none_at, picks_more, picks_none, picks_same, rest_is}
use Rattle.rs_table_reads.proofs.picking.picked_spans.Goals.{in-Some+in_ok-push, in_default}
use Rattle.rs_table_reads.proofs.picking.picked_spans.Goals as goal

pub slice_bounds-cell-count : goal.slice_bounds-cell-count
slice_bounds-cell-count c = omega (arith, cell_wide c.args.found.now c.loop-place.place c.get.result.now c.get.ensures, c.requires.width)

pub slice_bounds-cell-start : goal.slice_bounds-cell-start
slice_bounds-cell-start c = omega (arith, cell_wide c.args.found.now c.loop-place.place c.get.result.now c.get.ensures, c.requires.width)

pub loop-place-init : goal.loop-place-init
loop-place-init c =
    let types = c.args.schema.now.items in
    let none = sym c.in_ok-spans.ensures.items in
    record {
      picks = subst (λ (items : List Span). PicksSpans types c.args.window [] (map seen items)) none (picks_none types c.args.window);
      placed = subst (λ (items : List Span). ArePlaced c.args.window.kind (map seen items)) none tt;
      rows = subst (λ (items : List Span). AllByRecursion (λ (s : Stretch). IsRowOf types s.row) (map seen items)) none tt;
    }

pub picked_span-requires : goal.picked_span-requires
picked_span-requires c = record {
  width = omega (
    arith,
    cell_wide c.args.found.now c.loop-place.place c.get.result.now c.get.ensures,
    c.requires.width,
    ap length (rest_is c.args.wide c.get.result.now),
    length-drop c.args.wide c.get.result.now,
  );
}

pub returns-in_err-span-clause-refused : goal.returns-in_err-span-clause-refused
returns-in_err-span-clause-refused c =
    let p = err_from_is_err_and c.from_residual-in_err-span.result c.from_residual-in_err-span.ensures.1 in
    let wide = c.args.wide in
    let there : slice_get (map (drop wide) (listed c.args.found.now)) c.loop-place.place ≡ Some (take (length c.get.result.now - wide) (drop wide c.get.result.now)) =
    map_at (drop wide) (listed c.args.found.now) c.loop-place.place c.get.result.now c.get.ensures ∙ ap Some (sym (rest_is wide c.get.result.now)) in
    rw (p.1, p.2) (elim c.in_err-span.ensures.refused [
      | inl memory ↦ inl memory
      | inr damaged ↦
          inr (damaged.0, none_at c.args.schema.now.items (map (drop wide) (listed c.args.found.now)) c.loop-place.place (take (length c.get.result.now - wide) (drop wide c.get.result.now)) there damaged.1)
    ])

pub loop-place-preserved : goal.loop-place-preserved
loop-place-preserved c =
    let types = c.args.schema.now.items in
    let kind = c.args.window.kind in
    let wide = c.args.wide in
    let cells = map (drop wide) (listed c.args.found.now) in
    let place = c.loop-place.place in
    let so = c.loop-place.invariant in
    let spans = map seen c.loop-place.spans.items in
    let cell = take (length c.get.result.now - wide) (drop wide c.get.result.now) in
    let there : slice_get cells place ≡ Some cell = map_at (drop wide) (listed c.args.found.now) place c.get.result.now c.get.ensures ∙ ap Some (sym (rest_is wide c.get.result.now)) in
    elim c.match-branch-3.branch [
      | in-Some+in_ok-push w ↦
          let span = w.in-Some.span in
          let are : map seen w.push.new.self.items ≡ spans ++ seen span ∷ [] = ap (map seen) w.in_ok-push.ensures.items ∙ map-append seen c.loop-place.spans.items (span ∷ []) in
          rw w.spans-is (record {
            picks = subst (PicksSpans types c.args.window (take (place + 1) cells)) (sym are) (picks_more types c.args.window cells place cell there spans so.picks span (subst (PicksOne types c.args.window cell) w.in-Some.is c.in_ok-span.ensures.picks));
            placed = subst (AllByRecursion (IsPlaced kind)) (sym are) (all_more (IsPlaced kind) spans (seen span) so.placed (subst (λ (o : Option Span). IfSome o (λ (s : Span). IsPlaced kind (seen s))) w.in-Some.is c.in_ok-span.ensures.placed));
            rows = subst (AllByRecursion (λ (s : Stretch). IsRowOf types s.row)) (sym are)
                (all_more (λ (s : Stretch). IsRowOf types s.row) spans (seen span) so.rows (subst (λ (o : Option Span). IfSome o (λ (s : Span). IsRowOf types (seen s).row)) w.in-Some.is c.in_ok-span.ensures.row));
          })
      | in_default w ↦
          rw w.spans-is (record {
            picks = picks_same types c.args.window cells place cell there spans so.picks (subst (PicksOne types c.args.window cell) w.in_default.is c.in_ok-span.ensures.picks);
            placed = so.placed;
            rows = so.rows;
          })
    ]
