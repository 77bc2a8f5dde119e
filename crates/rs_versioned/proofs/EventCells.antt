-- A cell says one event, and an event has one cell.
use Rattle.std.proofs.Common.{◌≡◌, ◌+◌, ℕ, List, ◌++◌, length, take, drop, refl, sym, ap, ◌∙◌, subst, arith}
use Rattle.std.proofs.lemmas.List.{length-append, length-drop, take_all, take_at}
use Rattle.std.specs.Int.{w32, w64, to_be_bytes}
use Rattle.byteorder.specs.Endian.{big_number}
use Rattle.rs_interval.specs.EventRecords.{EventRecord}
use Rattle.rs_interval.proofs.EventLaws.{cell_says_one}
use Rattle.rs_value.specs.declared.column.ColumnType.{ColumnType}
use Rattle.rs_value.specs.Encoding.{SaysRow, row_width}
use Rattle.rs_value.specs.Row.{Row}
use Rattle.rs_value.proofs.EncodingLaws.{bytes_once, row_said_once}
use Rattle.rs_value.proofs.EncodingOrder.{row_wide}
use Rattle.rs_versioned.specs.Events.{Event, SaysEvent, event_width}
use Rattle.rs_versioned.proofs.Numbers.{AreBytes, bytes_at, bytes_next, number_at_fits}

abbrev record_of : List ℕ → Event → EventRecord
record_of bytes event = record { route = event.route; from = event.lo; row = bytes; born = event.born; to = event.hi; died = event.died }

pub event_said_once : (types : List ColumnType) (cell : List ℕ) (one other : Event) → SaysEvent types cell one → SaysEvent types cell other → one ≡ other
event_said_once types cell one other says tells =
    let same : record_of says.bytes one ≡ record_of tells.bytes other = cell_says_one cell (record_of says.bytes one) (record_of tells.bytes other) says.fields tells.fields in
    let rows : says.bytes ≡ tells.bytes = ap (λ (r : EventRecord). r.row) same in
    let row : one.row ≡ other.row = row_said_once types says.bytes one.row other.row says.row (subst (λ b. SaysRow types b other.row) (sym rows) tells.row) in
    λ i. record { route = (same i).route; lo = (same i).from; hi = (same i).to; row = row i; born = (same i).born; died = (same i).died }

pub event_has_one_cell : (types : List ColumnType) (cell other : List ℕ) (one : Event) → SaysEvent types cell one → SaysEvent types other one → cell ≡ other
event_has_one_cell types cell other one says tells =
    let row : says.bytes ≡ tells.bytes = bytes_once types says.bytes tells.bytes one.row says.row tells.row in
    says.fields.bytes
    ∙ ap (λ (r : List ℕ). to_be_bytes w32 one.route ++ (to_be_bytes w32 one.lo ++ (r ++ (to_be_bytes w64 one.born ++ (to_be_bytes w32 one.hi ++ to_be_bytes w64 one.died))))) row
    ∙ sym tells.fields.bytes

pub event_wide : (types : List ColumnType) (cell : List ℕ) (one : Event) → SaysEvent types cell one → length cell ≡ event_width types
event_wide types cell one says =
    let wide : length says.bytes ≡ row_width types = row_wide types says.bytes one.row says.row in
    ap length says.fields.bytes ∙ (let e = length-append says.bytes (to_be_bytes w64 one.born ++ (to_be_bytes w32 one.hi ++ to_be_bytes w64 one.died)) in omega arith)

-- the bytes of the row of an event
pub event_row_at : (types : List ColumnType) (cell : List ℕ) (one : Event) → SaysEvent types cell one → SaysRow types (take (row_width types) (drop 8 cell)) one.row
event_row_at types cell one says =
    let rest : List ℕ = to_be_bytes w64 one.born ++ (to_be_bytes w32 one.hi ++ to_be_bytes w64 one.died) in
    let there : take (row_width types) (drop 8 cell) ≡ says.bytes =
    ap (λ (l : List ℕ). take (row_width types) (drop 8 l)) says.fields.bytes ∙ take_at says.bytes rest (row_width types) (row_wide types says.bytes one.row says.row) in
    subst (λ b. SaysRow types b one.row) (sym there) says.row

-- the event that a cell with a row of this width says
abbrev pub event_at : ℕ → List ℕ → Row → Event
event_at width cell row = record {
  route = big_number 4 cell;
  lo = big_number 4 (drop 4 cell);
  hi = big_number 4 (drop (8 + width + 8) cell);
  row = row;
  born = big_number 8 (drop (8 + width) cell);
  died = big_number 8 (drop (8 + width + 12) cell);
}

module _ (types : List ColumnType) (width : ℕ) (cell : List ℕ) (row : Row) (size : length cell ≡ width + 28) (small : AreBytes cell) (says : SaysRow types (take width (drop 8 cell)) row) where
  abbrev one : Event
  one = event_at width cell row

  last : drop (8 + width + 12) cell ≡ to_be_bytes w64 one.died
  last =
      sym (take_all 8 (drop (8 + width + 12) cell) (omega (arith, length-drop (8 + width + 12) cell)))
      ∙ sym (bytes_at 8 (8 + width + 12) cell (omega arith) small)

  parted : cell ≡ to_be_bytes w32 one.route ++ (to_be_bytes w32 one.lo ++ (take width (drop 8 cell) ++ (to_be_bytes w64 one.born ++ (to_be_bytes w32 one.hi ++ to_be_bytes w64 one.died))))
  parted =
      bytes_next 0 4 4 cell (to_be_bytes w32 one.route) (omega arith) (bytes_at 4 0 cell (omega arith) small)
      ∙ ap (λ (l : List ℕ). to_be_bytes w32 one.route ++ l) (bytes_next 4 4 8 cell (to_be_bytes w32 one.lo) (omega arith) (bytes_at 4 4 cell (omega arith) small)
      ∙ ap (λ (l : List ℕ). to_be_bytes w32 one.lo ++ l) (bytes_next 8 width (8 + width) cell (take width (drop 8 cell)) (omega arith) refl
      ∙ ap (λ (l : List ℕ). take width (drop 8 cell) ++ l) (bytes_next (8 + width) 8 (8 + width + 8) cell (to_be_bytes w64 one.born) (omega arith) (bytes_at 8 (8 + width) cell (omega arith) small)
      ∙ ap (λ (l : List ℕ). to_be_bytes w64 one.born ++ l) (bytes_next (8 + width + 8) 4 (8 + width + 12) cell (to_be_bytes w32 one.hi) (omega arith) (bytes_at 4 (8 + width + 8) cell (omega arith) small)
      ∙ ap (λ (l : List ℕ). to_be_bytes w32 one.hi ++ l) last))))

  pub event_there : SaysEvent types cell (event_at width cell row)
  event_there = record {
    bytes = take width (drop 8 cell);
    row = says;
    fields = record {
      route_fits = number_at_fits 4 0 cell small;
      from_fits = number_at_fits 4 4 cell small;
      born_fits = number_at_fits 8 (8 + width) cell small;
      to_fits = number_at_fits 4 (8 + width + 8) cell small;
      died_fits = number_at_fits 8 (8 + width + 12) cell small;
      bytes = parted;
    };
  }
