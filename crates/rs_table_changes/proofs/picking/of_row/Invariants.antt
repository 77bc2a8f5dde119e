-- Those that are picked of the cells so far.
use Rattle.std.proofs.Common.{◌≡◌, map, take}
use Rattle.std.specs.List.{AllByRecursion}
use Rattle.rs_facts.proofs.Rows.{same_row}
use Rattle.rs_facts.specs.Spans.{seen}
use Rattle.rs_records.specs.Listed.{listed, record_width}
use Rattle.rs_table_changes.specs.Picked.{Picks}
use Rattle.rs_value.specs.Values.{IsRowOf}
use Rattle.rs_table_changes.proofs.picking.of_row.Given as goal

abbrev pub invariant-loop-place : goal.invariant-loop-place
invariant-loop-place l = record {
  picks : Picks l.schema.items (λ other. same_row other l.row) (take l.place (listed l.found)) (listed l.cells) (map seen l.spans.items);
  rows : AllByRecursion (λ span. IsRowOf l.schema.items span.row) (map seen l.spans.items);
  width : record_width l.cells ≡ record_width l.found;
}
