-- The spans that are picked of the cells so far.
use Rattle.std.proofs.Common.{drop, map, take}
use Rattle.std.specs.List.{AllByRecursion}
use Rattle.rs_facts.specs.Spans.{ArePlaced, seen}
use Rattle.rs_records.specs.Listed.{listed}
use Rattle.rs_table_reads.specs.Picked.{PicksSpans}
use Rattle.rs_value.specs.Values.{IsRowOf}
use Rattle.rs_table_reads.proofs.picking.picked_spans.Given as goal

abbrev pub invariant-loop-place : goal.invariant-loop-place
invariant-loop-place l = record {
  picks : PicksSpans l.schema.items l.window (take l.place (map (drop l.wide) (listed l.found))) (map seen l.spans.items);
  placed : ArePlaced l.window.kind (map seen l.spans.items);
  rows : AllByRecursion (λ span. IsRowOf l.schema.items span.row) (map seen l.spans.items);
}
