-- What the calls that write and read cells do.
use Rattle.std.proofs.Common.{◌≡◌, ◌≤◌, ◌+◌, ◌-◌, ℕ, Bool, List, ◌++◌, length, take, drop, replicate, IsTrue, ◌↔◌, sym, ap, ◌∙◌, subst, arith}
use Rattle.std.proofs.lemmas.List.{append_assoc, length-append, take_all}
use Rattle.byteorder.specs.Endian.{big_from}
use Rattle.byteorder.specs.Numbers.{big_from-take}
use Rattle.rs_value.specs.declared.column.ColumnType.{ColumnType}
use Rattle.rs_value.specs.Encoding.{SaysRow, row_width}
use Rattle.rs_value.specs.Row.{Row}
use Rattle.rs_versioned.specs.Events.{Event, SaysEvent, event_width}
use Rattle.rs_versioned.proofs.EventCells.{event_at, event_row_at, event_there}
use Rattle.rs_versioned.proofs.Numbers.{AreBytes}

-- a number that is read at a place
pub number_at : (n k : ℕ) (bytes : List ℕ) → big_from 0 n (take (k + n - k) (drop k bytes)) ≡ big_from 0 n (drop k bytes)
number_at n k bytes = big_from-take 0 n (k + n - k) (drop k bytes) (omega arith)

-- a name and zeros after it, between what is before and what is after it
pub filled_name : (front name filled : List ℕ) (n : ℕ) → length front ≡ 4 → length name ≤ 32 → n ≡ length (front ++ name) → filled ≡ take 36 (front ++ name) ++ replicate (36 - n) 0
    → filled ≡ front ++ (name ++ replicate (32 - length name) 0)
filled_name front name filled n four short size is =
    let whole : length (front ++ name) ≡ 4 + length name = length-append front name ∙ ap (λ (m : ℕ). m + length name) four in
    let left : 36 - n ≡ 32 - length name = omega arith in
    is ∙ ap (λ (l : List ℕ). l ++ replicate (36 - n) 0) (take_all 36 (front ++ name) (omega arith))
    ∙ ap (λ (m : ℕ). (front ++ name) ++ replicate m 0) left ∙ append_assoc front name (replicate (32 - length name) 0)

-- the versions and the number between them, after what is there
pub last_put : (front birth at end c0 c1 c2 c3 : List ℕ) → c0 ≡ front → c1 ≡ c0 ++ birth → c2 ≡ c1 ++ at → c3 ≡ c2 ++ end → c3 ≡ front ++ (birth ++ (at ++ end))
last_put front birth at end c0 c1 c2 c3 i0 i1 i2 i3 =
    i3 ∙ ap (λ (l : List ℕ). l ++ end) (i2 ∙ ap (λ (l : List ℕ). l ++ at) (i1 ∙ ap (λ (l : List ℕ). l ++ birth) i0))
    ∙ append_assoc (front ++ birth) at end ∙ append_assoc front birth (at ++ end)

-- the event that a cell says where its row is said
module _ (types : List ColumnType) (width : ℕ) (cell : List ℕ) (is : width ≡ row_width types) (size : length cell ≡ event_width types) where
  part_is : take (8 + width - 8) (drop 8 cell) ≡ take (row_width types) (drop 8 cell)
  part_is = let e : 8 + width - 8 ≡ row_width types = omega arith in ap (λ (n : ℕ). take n (drop 8 cell)) e

  pub event_said : (row : Row) → AreBytes cell → SaysRow types (take (8 + width - 8) (drop 8 cell)) row → SaysEvent types cell (event_at width cell row)
  event_said row small says =
      let e : 8 + width - 8 ≡ width = omega arith in
      event_there types width cell row (omega arith) small (subst (λ (n : ℕ). SaysRow types (take n (drop 8 cell)) row) e says)

  pub row_said_there : (event : Event) → SaysEvent types cell event → SaysRow types (take (8 + width - 8) (drop 8 cell)) event.row
  row_said_there event says = subst (λ b. SaysRow types b event.row) (sym part_is) (event_row_at types cell event says)

  pub says_where_row_said : (b : Bool) → AreBytes cell → IsTrue b ↔ ((row : Row) × SaysRow types (take (8 + width - 8) (drop 8 cell)) row) → IsTrue b ↔ ((event : Event) × SaysEvent types cell event)
  says_where_row_said b small says = (
    λ yes. (let row = says.0 yes in (event_at width cell row.0, event_said row.0 small row.1)),
    λ there. says.1 (there.0.row, row_said_there there.0 there.1),
  )
