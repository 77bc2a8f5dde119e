-- The bytes of a value in a cell, and which value they say.
use Rattle.std.proofs.Common.{◌≡◌, ℕ, zero, suc, Some, List, [], ◌∷◌, ◌++◌, length, take, drop, slice_get, sym, ap, ◌∙◌, subst}
use Rattle.std.proofs.lemmas.List.{append_assoc, append-nil, drop-drop, drop_at, take_at}
use Rattle.std.proofs.lemmas.List.Sums.{sum_by-cons}
use Rattle.std.proofs.lemmas.Option.{same_Some}
use Rattle.std.specs.Cmp.Lexicographic.{slice_cmp}
use Rattle.std.specs.Int.{w32, w64, to_be_bytes}
use Rattle.std.specs.Ordering.{nat_cmp, is_eq}
use Rattle.rs_attr.specs.Entries.{Field, IsColumn, value_in}
use Rattle.rs_attr.specs.Finding.{has_value}
use Rattle.rs_facts.specs.Operators.{datum_at}
use Rattle.rs_value.specs.declared.column.ColumnType.{ColumnType}
use Rattle.rs_value.specs.Encoding.{SaysDatum, SaysRow, row_width, width}
use Rattle.rs_value.specs.Row.{Datum, Row}
use Rattle.rs_value.proofs.EncodingOrder.{datum_wide, datums_cmp}
use Rattle.rs_versioned.specs.Events.{Event, SaysEvent}

-- bytes that say a row of one column say its value
pub one_said : (type : ColumnType) (bytes : List ℕ) (datum : Datum) → SaysRow (type ∷ []) bytes (datum ∷ []) → SaysDatum type bytes datum
one_said type bytes datum (first, rest, is, one, none) =
    subst (λ (l : List ℕ). SaysDatum type l datum) (sym (is ∙ ap (λ (l : List ℕ). first ++ l) none ∙ append-nil first)) one

-- the bytes of each column of a row say its value
column_said : (types : List ColumnType) (column : ℕ) (type : ColumnType) (bytes after : List ℕ) (row : Row) → slice_get types column ≡ Some type → SaysRow types bytes row
    → SaysDatum type (take (width type) (drop (row_width (take column types)) (bytes ++ after))) (datum_at row column)
column_said [] column type bytes after row there says = cc
column_said (t ∷ ts) column type bytes after [] there says = absurd says
column_said (t ∷ ts) zero type bytes after (datum ∷ row) there (first, rest, is, one, more) =
    let wide : length first ≡ width t = datum_wide t first datum one in
    let front : take (width t) (bytes ++ after) ≡ first =
    ap (λ (l : List ℕ). take (width t) (l ++ after)) is ∙ ap (take (width t)) (append_assoc first rest after) ∙ take_at first (rest ++ after) (width t) wide in
    subst (λ (k : ColumnType). SaysDatum k (take (width k) (bytes ++ after)) datum) (same_Some t type there)
    (subst (λ (l : List ℕ). SaysDatum t l datum) (sym front) one)
column_said (t ∷ ts) (suc column) type bytes after (datum ∷ row) there (first, rest, is, one, more) =
    let wide : length first ≡ width t = datum_wide t first datum one in
    let left : ℕ = row_width (take column ts) in
    let back : drop (row_width (t ∷ take column ts)) (bytes ++ after) ≡ drop left (rest ++ after) =
    ap (λ (n : ℕ). drop n (bytes ++ after)) (sum_by-cons width t (take column ts)) ∙ sym (drop-drop left (width t) (bytes ++ after))
    ∙ ap (drop left) (ap (λ (l : List ℕ). drop (width t) (l ++ after)) is ∙ ap (drop (width t)) (append_assoc first rest after) ∙ drop_at first (rest ++ after) (width t) wide) in
    subst (λ (l : List ℕ). SaysDatum type (take (width type) l) (datum_at row column)) (sym back) (column_said ts column type rest after row there more)

-- the bytes of the field in the cell of an event say the value of the column in its row
pub value_said : (types : List ColumnType) (column : ℕ) (field : Field) (cell : List ℕ) (event : Event) → IsColumn types column field → SaysEvent types cell event
    → SaysDatum field.column (value_in field cell) (datum_at event.row column)
value_said types column field cell event is says =
    let last : List ℕ = to_be_bytes w64 event.born ++ (to_be_bytes w32 event.hi ++ to_be_bytes w64 event.died) in
    let before : ℕ = row_width (take column types) in
    let there : drop field.start cell ≡ drop before (says.bytes ++ last) =
    ap (λ (n : ℕ). drop n cell) is.start ∙ sym (drop-drop before 8 cell) ∙ ap (λ (l : List ℕ). drop before (drop 8 l)) says.fields.bytes in
    subst (λ (l : List ℕ). SaysDatum field.column (take (width field.column) l) (datum_at event.row column)) (sym there)
    (column_said types column field.column says.bytes last event.row is.type says.row)

-- the event has the value where the bytes in its cell are those of the value
pub has_bytes : (types : List ColumnType) (column : ℕ) (field : Field) (bytes : List ℕ) (datum : Datum) → IsColumn types column field → SaysDatum field.column bytes datum
    → (cell : List ℕ) (event : Event) → SaysEvent types cell event → is_eq (slice_cmp nat_cmp (value_in field cell) bytes) ≡ has_value column datum event
has_bytes types column field bytes datum is says cell event tells =
    ap is_eq (datums_cmp field.column (value_in field cell) bytes (datum_at event.row column) datum (value_said types column field cell event is tells) says)
