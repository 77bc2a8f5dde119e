-- Its parts are read from their places.
use Rattle.std.proofs.Common.{◌≡◌, ◌+◌, ◌-◌, take, drop}
use Rattle.rs_facts.specs.Runs.{stretch}
use Rattle.rs_value.proofs.EncodingLaws.{row_said_once}
use Rattle.rs_versioned.proofs.CellParts.{event_said, row_said_there}
use Rattle.rs_versioned.proofs.EventCells.{event_at}
use Rattle.rs_versioned.proofs.event.span_of.Goals as goal

pub returns-clause-said : goal.returns-clause-said
returns-clause-said c = (
  event_at c.row_width-end.result c.args.cell.now c.in-Some.tuple,
  event_said c.args.schema.now.items c.row_width-end.result c.args.cell.now c.row_width-end.ensures c.requires.width c.in-Some.tuple (λ i. (c.type_inv.cell i).fits) (rw c.in-Some.is at c.in_ok-tuple.ensures.row),
)

pub returns-clause-span : goal.returns-clause-span
returns-clause-span c event says =
    let types = c.args.schema.now.items in
    let width = c.row_width-end.result in
    let cell = c.args.cell.now in
    let placed = c.place_of-lo.ensures types event says in
    let row : c.in-Some.tuple ≡ event.row =
    row_said_once types (take (8 + width - 8) (drop 8 cell)) c.in-Some.tuple event.row (rw c.in-Some.is at c.in_ok-tuple.ensures.row)
    (row_said_there types width cell c.row_width-end.ensures c.requires.width event says) in
    λ i. stretch (placed.0 i) (placed.1 i) (row i)
