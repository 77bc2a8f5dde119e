-- Its places are read from the front and from the end.
use Rattle.std.proofs.Common.{◌≡◌, ◌+◌, ◌-◌, ◌∙◌, ℕ, drop, length, ap, arith}
use Rattle.byteorder.specs.Endian.{big_number}
use Rattle.rs_value.specs.Encoding.{row_width}
use Rattle.rs_versioned.specs.Events.{Event}
use Rattle.rs_versioned.proofs.CellParts.{number_at}
use Rattle.rs_versioned.proofs.EventCells.{event_at, event_row_at, event_said_once, event_there, event_wide}
use Rattle.rs_versioned.proofs.event.place_of.Goals as goal

pub returns : goal.returns
returns c types event says =
    let cell = c.args.cell.now in
    let width = row_width types in
    let wide : length cell ≡ width + 28 = event_wide types cell event says in
    let one : Event = event_at width cell event.row in
    let same : one ≡ event =
    event_said_once types cell one event (event_there types width cell event.row wide (λ i. (c.type_inv.cell i).fits) (event_row_at types cell event says)) says in
    let place : length cell - 12 ≡ 8 + width + 8 = omega (arith, wide) in (
      c.number_of_four-lo.ensures ∙ number_at 4 4 cell ∙ ap (λ (e : Event). e.lo) same,
      c.number_of_four-hi.ensures ∙ number_at 4 (length cell - 12) cell ∙ ap (λ (n : ℕ). big_number 4 (drop n cell)) place ∙ ap (λ (e : Event). e.hi) same,
    )
