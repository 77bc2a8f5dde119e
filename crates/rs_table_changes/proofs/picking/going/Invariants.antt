-- Those that are picked of the cells so far.
use Rattle.std.proofs.Common.{◌≡◌, map, take}
use Rattle.std.specs.List.{AllByRecursion}
use Rattle.std.specs.Option.{option_copied}
use Rattle.rs_spans.specs.Removal.{goes_by}
use Rattle.rs_table_changes.specs.Picked.{Picks}
use Rattle.rs_facts.specs.Spans.{seen}
use Rattle.rs_records.specs.Listed.{listed, record_width}
use Rattle.rs_value.specs.Values.{IsRowOf}
use Rattle.rs_table_changes.proofs.picking.going.Given as goal

abbrev pub invariant-loop-place : goal.invariant-loop-place
invariant-loop-place l = record {
  picks : Picks l.schema.items (goes_by (option_copied l.goes)) (take l.place (listed l.found)) (listed l.cells) (map seen l.spans.items);
  rows : AllByRecursion (λ span. IsRowOf l.schema.items span.row) (map seen l.spans.items);
  width : record_width l.cells ≡ record_width l.found;
}
