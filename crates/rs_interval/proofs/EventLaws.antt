-- A cell says one record, read back field by field.
use Rattle.std.proofs.Common.{◌≡◌, ◌+◌, ◌-◌, ℕ, List, [], ◌++◌, length, take, drop, refl, sym, ap, ◌∙◌, arith}
use Rattle.std.proofs.lemmas.List.{append_assoc, length-append, drop_at, take_at}
use Rattle.std.specs.Int.{w32, w64, to_be_bytes}
use Rattle.byteorder.specs.Endian.{big_number}
use Rattle.byteorder.specs.Numbers.{big_number-reads_back}
use Rattle.rs_interval.specs.EventRecords.{EventRecord, SaysRecord}

-- the record that the bytes of a cell say, if they say one
abbrev event_of : List ℕ → EventRecord
event_of cell = record {
  route = big_number 4 cell;
  from = big_number 4 (drop 4 cell);
  row = take (length cell - 28) (drop 8 cell);
  born = big_number 8 (drop (length cell - 20) cell);
  to = big_number 4 (drop (length cell - 12) cell);
  died = big_number 8 (drop (length cell - 8) cell);
}

-- a number before the end of a cell
back_number : (n k : ℕ) (cell front rest : List ℕ) (bytes : List ℕ) (x : ℕ) → cell ≡ front ++ (bytes ++ rest) → length (bytes ++ rest) ≡ k → big_number n (bytes ++ rest) ≡ x
    → x ≡ big_number n (drop (length cell - k) cell)
back_number n k cell front rest bytes x parted size says =
    let whole : length cell ≡ length front + k = ap length parted ∙ length-append front (bytes ++ rest) ∙ ap (λ (m : ℕ). length front + m) size in
    let place : length front ≡ length cell - k = omega arith in
    sym says ∙ ap (big_number n) (sym (ap (drop (length cell - k)) parted ∙ drop_at front (bytes ++ rest) (length cell - k) place))

read_back : (cell : List ℕ) (event : EventRecord) → SaysRecord cell event → event ≡ event_of cell
read_back cell event says =
    let first : List ℕ = to_be_bytes w32 event.route in
    let second : List ℕ = to_be_bytes w32 event.from in
    let birth : List ℕ = to_be_bytes w64 event.born in
    let end : List ℕ = to_be_bytes w32 event.to in
    let death : List ℕ = to_be_bytes w64 event.died in
    let size : length cell ≡ 28 + length event.row =
    ap length says.bytes ∙ (let e = length-append event.row (birth ++ (end ++ death)) in omega arith) in
    let route : event.route ≡ big_number 4 cell =
    sym (big_number-reads_back 4 event.route (second ++ (event.row ++ (birth ++ (end ++ death)))) says.route_fits) ∙ ap (big_number 4) (sym says.bytes) in
    let from : event.from ≡ big_number 4 (drop 4 cell) =
    sym (big_number-reads_back 4 event.from (event.row ++ (birth ++ (end ++ death))) says.from_fits) ∙ ap (λ (c : List ℕ). big_number 4 (drop 4 c)) (sym says.bytes) in
    let width : length event.row ≡ length cell - 28 = omega arith in
    let row : event.row ≡ take (length cell - 28) (drop 8 cell) =
    sym (take_at event.row (birth ++ (end ++ death)) (length cell - 28) width) ∙ ap (λ (c : List ℕ). take (length cell - 28) (drop 8 c)) (sym says.bytes) in
    let before : List ℕ = first ++ (second ++ event.row) in
    let living : List ℕ = first ++ (second ++ (event.row ++ birth)) in
    let lasting : List ℕ = first ++ (second ++ (event.row ++ (birth ++ end))) in
    let at_end : event.row ++ (birth ++ (end ++ death)) ≡ (event.row ++ birth) ++ (end ++ death) = sym (append_assoc event.row birth (end ++ death)) in
    let at_death : event.row ++ (birth ++ (end ++ death)) ≡ (event.row ++ (birth ++ end)) ++ death = sym (append_assoc event.row (birth ++ end) death) in
    let born : event.born ≡ big_number 8 (drop (length cell - 20) cell) =
    back_number 8 20 cell before (end ++ death) birth event.born says.bytes refl (big_number-reads_back 8 event.born (end ++ death) says.born_fits) in
    let to : event.to ≡ big_number 4 (drop (length cell - 12) cell) =
    back_number 4 12 cell living death end event.to (says.bytes ∙ ap (λ (l : List ℕ). first ++ (second ++ l)) at_end) refl (big_number-reads_back 4 event.to death says.to_fits) in
    let died : event.died ≡ big_number 8 (drop (length cell - 8) cell) =
    back_number 8 8 cell lasting [] death event.died (says.bytes ∙ ap (λ (l : List ℕ). first ++ (second ++ l)) at_death) refl (big_number-reads_back 8 event.died [] says.died_fits) in
    let one : EventRecord = event_of cell in
    let a = ap (λ (x : ℕ). record event { route = x }) route in
    let b = ap (λ (x : ℕ). record event { route = one.route; from = x }) from in
    let c = ap (λ (x : List ℕ). record event { route = one.route; from = one.from; row = x }) row in
    let d = ap (λ (x : ℕ). record event { route = one.route; from = one.from; row = one.row; born = x }) born in
    let e = ap (λ (x : ℕ). record event { route = one.route; from = one.from; row = one.row; born = one.born; to = x }) to in
    a ∙ b ∙ c ∙ d ∙ e ∙ ap (λ (x : ℕ). record one { died = x }) died

pub cell_says_one : (cell : List ℕ) (one other : EventRecord) → SaysRecord cell one → SaysRecord cell other → one ≡ other
cell_says_one cell one other says tells = read_back cell one says ∙ sym (read_back cell other tells)

pub record_has_one : (cell other : List ℕ) (event : EventRecord) → SaysRecord cell event → SaysRecord other event → cell ≡ other
record_has_one cell other event says tells = says.bytes ∙ sym tells.bytes
