-- Its places are read from both ends, and its row lies between.
use Rattle.std.proofs.Common.{◌≡◌, ◌+◌, ◌-◌, ℕ, arith, drop, length, subst, take}
use Rattle.rs_value.specs.Encoding.{SaysRow, row_width}
use Rattle.rs_versioned.proofs.EventCells.{event_row_at, event_wide}
use Rattle.rs_versioned.proofs.event.lent_span.Goals as goal

pub returns-clause-says : goal.returns-clause-says
returns-clause-says c types event says =
    let cell = c.args.cell.now in
    let placed = c.place_of-lo.ensures types event says in
    let wide : length cell ≡ row_width types + 28 = event_wide types cell event says in
    let width : row_width types ≡ length cell - 20 - 8 = omega (arith, wide) in
    record {
      lo = placed.0;
      hi = placed.1;
      row = subst (λ (n : ℕ). SaysRow types (take n (drop 8 cell)) event.row) width (event_row_at types cell event says);
    }
