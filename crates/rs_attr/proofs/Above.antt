-- All cells of events are below nine bytes of 255.
use Rattle.std.proofs.Common.{◌≡◌, ◌<◌, ◌+◌, ◌/◌, ◌^◌, ℕ, zero, suc, List, [], ◌∷◌, ◌++◌, length, replicate, refl, sym, ap, ◌∙◌, subst, inl, inr, arith}
use Rattle.std.proofs.Math.Nat.{mod-lt}
use Rattle.std.proofs.lemmas.Bool.{cases_order}
use Rattle.std.specs.Cmp.{nat_cmp_is}
use Rattle.std.specs.Cmp.Lexicographic.{slice_cmp}
use Rattle.std.specs.Int.{w32, w64, to_be_bytes, byte_at}
use Rattle.std.specs.Ordering.{nat_cmp, ordering_then, is_lt}
use Rattle.std.specs.Prelude.{IsTrue}
use Rattle.std.specs.declared.cmp.Ordering.TheVariants.{Less, Equal}
use Rattle.rs_records.specs.Order.{is_below}
use Rattle.rs_value.specs.declared.column.ColumnType.{ColumnType}
use Rattle.rs_value.specs.declared.column.ColumnType.TheVariants as types
use Rattle.rs_value.specs.Encoding.{SaysDatum, SaysRow}
use Rattle.rs_value.specs.Row.{Datum, null, number, text, Row}
use Rattle.rs_versioned.specs.Events.{Event, SaysEvent}

-- a byte below 255 decides
less_here : (x : ℕ) (xs ys : List ℕ) → x < 255 → IsTrue (is_below (x ∷ xs) (255 ∷ ys))
unfolding is_below
less_here x xs ys small = ap (λ o. is_lt (ordering_then o (slice_cmp nat_cmp xs ys))) (sym (nat_cmp_is x 255 Less small))

-- 255 leaves it to the bytes after it
same_here : (x : ℕ) (xs ys : List ℕ) → x ≡ 255 → IsTrue (is_below xs ys) → IsTrue (is_below (x ∷ xs) (255 ∷ ys))
unfolding is_below
same_here x xs ys same rest = ap (λ o. is_lt (ordering_then o (slice_cmp nat_cmp xs ys))) (sym (nat_cmp_is x 255 Equal same)) ∙ rest

-- one byte more in front
byte_more : (x : ℕ) (xs ys : List ℕ) → x < 256 → IsTrue (is_below xs ys) → IsTrue (is_below (x ∷ xs) (255 ∷ ys))
byte_more x xs ys byte rest = elim (cases_order x 255) [
  | inl same ↦ same_here x xs ys same rest
  | inr (inl less) ↦ less_here x xs ys less
  | inr (inr more) ↦ absurd (omega arith)
]

byte_small : (k n : ℕ) → byte_at k n < 256
byte_small zero n = mod-lt n (omega arith)
byte_small (suc k) n = mod-lt (n / 256 ^ suc k) (omega arith)

-- one number more in front
pub number_more : (n : ℕ) (xs ys : List ℕ) → IsTrue (is_below xs ys) → IsTrue (is_below (to_be_bytes w32 n ++ xs) (255 ∷ 255 ∷ 255 ∷ 255 ∷ ys))
number_more n xs ys rest =
    byte_more (byte_at 3 n) (byte_at 2 n ∷ byte_at 1 n ∷ byte_at 0 n ∷ xs) (255 ∷ 255 ∷ 255 ∷ ys) (byte_small 3 n)
    (byte_more (byte_at 2 n) (byte_at 1 n ∷ byte_at 0 n ∷ xs) (255 ∷ 255 ∷ ys) (byte_small 2 n)
    (byte_more (byte_at 1 n) (byte_at 0 n ∷ xs) (255 ∷ ys) (byte_small 1 n)
    (byte_more (byte_at 0 n) xs ys (byte_small 0 n) rest)))

-- a first byte below 255
record BeginsLow (bytes : List ℕ) : Type 0 where
  first : ℕ
  rest : List ℕ
  is : bytes ≡ first ∷ rest
  low : first < 255

zeros_low : (n : ℕ) → BeginsLow (replicate (n + 1) 0)
zeros_low n = let next : n + 1 ≡ suc n = omega arith in record { first = 0; rest = replicate n 0; is = ap (λ k. replicate {A = ℕ} k 0) next; low = omega arith }

datum_low : (type : ColumnType) (bytes : List ℕ) (datum : Datum) → SaysDatum type bytes datum → BeginsLow bytes
datum_low types.Int bytes null says = subst BeginsLow (sym says) (zeros_low 8)
datum_low (types.Text most) bytes null says = subst BeginsLow (sym says) (zeros_low most)
datum_low types.Int bytes (number n) says = record { first = 1; rest = to_be_bytes w64 says.1.0; is = says.1.2; low = omega arith }
datum_low types.Int bytes (text said) says = absurd says
datum_low (types.Text most) bytes (number n) says = absurd says
datum_low (types.Text most) bytes (text said) says = subst BeginsLow (sym says.1.1) (record { first = 1; rest = _; is = refl; low = omega arith })

row_low : (types : List ColumnType) (bytes : List ℕ) (row : Row) → 0 < length types → SaysRow types bytes row → BeginsLow bytes
row_low [] bytes row some says = absurd (omega arith)
row_low (type ∷ types) bytes [] some says = absurd says
row_low (type ∷ types) bytes (datum ∷ row) some (first, rest, is, one, more) =
    let low = datum_low type first datum one in
    record { first = low.first; rest = low.rest ++ rest; is = is ∙ ap (λ (l : List ℕ). l ++ rest) low.is; low = low.low }

low_below : (bytes after : List ℕ) → BeginsLow bytes → IsTrue (is_below (bytes ++ after) (255 ∷ []))
low_below bytes after low = subst (λ (l : List ℕ). IsTrue (is_below (l ++ after) (255 ∷ []))) (sym low.is) (less_here low.first (low.rest ++ after) [] low.low)

-- a cell of an event with at least one column
pub cell_below : (types : List ColumnType) (column : ℕ) (cell : List ℕ) (event : Event) → column < length types → SaysEvent types cell event → IsTrue (is_below cell (replicate 9 255))
cell_below types column cell event within says =
    let last : List ℕ = to_be_bytes w64 event.born ++ (to_be_bytes w32 event.hi ++ to_be_bytes w64 event.died) in
    let row : IsTrue (is_below (says.bytes ++ last) (255 ∷ [])) = low_below says.bytes last (row_low types says.bytes event.row (omega arith) says.row) in
    subst (λ (l : List ℕ). IsTrue (is_below l (replicate 9 255))) (sym says.fields.bytes)
    (number_more event.route (to_be_bytes w32 event.lo ++ (says.bytes ++ last)) (255 ∷ 255 ∷ 255 ∷ 255 ∷ 255 ∷ [])
    (number_more event.lo (says.bytes ++ last) (255 ∷ []) row))
