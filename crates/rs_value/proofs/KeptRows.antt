-- Bytes that keep rows: made of one value after another, read from the front.
use Rattle.std.proofs.Common.{◌≡◌, ℕ, zero, suc, ◌+◌, ◌^◌, ◌<◌, ◌≤◌, ℤ, pos, negsuc, ◌+ℤ◌, ◌-ℤ◌, nat_abs, List, [], ◌∷◌, ◌++◌, length, take, drop, replicate, false, ◌==◌, refl, sym, ap, ◌∙◌, subst, arith, append_assoc, append-nil, length-append}
use Rattle.std.proofs.Math.IntN.{+ℤ-neg_ℤ_cancel}
use Rattle.std.specs.List.{AllByRecursion, position_or_len, list_any}
use Rattle.std.specs.Int.{w64, to_be_bytes, from_be_bytes}
use Rattle.std.proofs.lemmas.Bool.{le-ltb, ne_eqb}
use Rattle.std.proofs.lemmas.List.{take_at, drop_at}
use Rattle.std.proofs.lemmas.Nat.{from_be_bytes-to_be_bytes_8}
use Rattle.rs_value.specs.Row.{Datum, null, number, text, Row}
use Rattle.rs_value.specs.Values.{IsValue, is_control}
use Rattle.rs_value.specs.Kept.{above_least, kept_datum, kept_bytes, MayBeKept, Keeps, is_zero, first_width, first_datum, row_within, row_in}
use Rattle.rs_value.proofs.EncodingOrder.{is_above, below_all, false_parts, above_zeros, not_control}

pub all_append : (P : Datum → Type 0) (x y : Row) → AllByRecursion P x → AllByRecursion P y → AllByRecursion P (x ++ y)
all_append P [] y h g = g
all_append P (d ∷ x) y h g = (h.0, all_append P x y h.1 g)

pub kept_append : (x y : Row) → kept_bytes (x ++ y) ≡ kept_bytes x ++ kept_bytes y
kept_append [] y = refl
kept_append (d ∷ x) y = ap (λ l. kept_datum d ++ l) (kept_append x y) ∙ sym (append_assoc (kept_datum d) (kept_bytes x) (kept_bytes y))

pub keeps_none : Keeps [] []
keeps_none = record { values = tt; bytes_are = refl }

pub keeps_one : (datum : Datum) (bytes : List ℕ) → MayBeKept datum → bytes ≡ kept_datum datum → Keeps bytes (datum ∷ [])
keeps_one datum bytes may is = record { values = (may, tt); bytes_are = is ∙ sym (append-nil (kept_datum datum)) }

pub keeps_both : (a b : List ℕ) (x y : Row) → Keeps a x → Keeps b y → Keeps (a ++ b) (x ++ y)
keeps_both a b x y h g = record {
  values = all_append MayBeKept x y h.values g.values;
  bytes_are = ap (λ l. l ++ b) h.bytes_are ∙ ap (λ l. kept_bytes x ++ l) g.bytes_are ∙ sym (kept_append x y);
}

pub row_kept : (row : Row) → AllByRecursion MayBeKept row → (bytes : List ℕ) × Keeps bytes row
row_kept row may = (kept_bytes row, record { values = may; bytes_are = refl })

pub keeps_is : (a b : List ℕ) (x y : Row) → a ≡ b → x ≡ y → Keeps a x → Keeps b y
keeps_is a b x y same rows h = subst (λ l. Keeps l y) same (subst (λ r. Keeps a r) rows h)

kept_nulls : (n : ℕ) → replicate n 0 ≡ kept_bytes (replicate n null)
kept_nulls zero = refl
kept_nulls (suc n) = ap (λ l. 0 ∷ l) (kept_nulls n)

nulls_may : (n : ℕ) → AllByRecursion MayBeKept (replicate n null)
nulls_may zero = tt
nulls_may (suc n) = ((tt, tt), nulls_may n)

pub keeps_nulls : (n : ℕ) (bytes : List ℕ) → bytes ≡ replicate n 0 → Keeps bytes (replicate n null)
keeps_nulls n bytes is = record { values = nulls_may n; bytes_are = is ∙ kept_nulls n }

-- how far a number is above -2^63
pub above_is : (n : ℤ) → nat_abs n ≤ 10 ^ 12 → pos (above_least n) ≡ n +ℤ pos (2 ^ 63)
above_is (pos k) few = refl
above_is (negsuc k) few =
    let few_here : suc k ≤ 10 ^ 12 = few in
    rw (le-ltb (2 ^ 63) (suc k) (omega arith)) refl

above_below : (n : ℤ) → nat_abs n ≤ 10 ^ 12 → above_least n < 2 ^ 64
above_below n few = below_all n (above_least n) few (is_above n (above_least n) few (above_is n few))

-- A text ends at the first zero.
pub text_ends : (said rest : List ℕ) → list_any is_control said ≡ false → position_or_len is_zero (said ++ 0 ∷ rest) ≡ length said
text_ends [] rest clean = refl
text_ends (b ∷ said) rest clean =
    let parts = false_parts (is_control b) (list_any is_control said) clean in
    let other : (b == 0) ≡ false = ne_eqb b 0 (λ e. let some = above_zeros b parts.0 in absurd (omega arith)) in
    let before : position_or_len is_zero (said ++ 0 ∷ rest) ≡ length said = text_ends said rest parts.1 in
    let more : 1 + position_or_len is_zero (said ++ 0 ∷ rest) ≡ suc (length said) = omega arith in
    rw other more

text_then : (said rest : List ℕ) → (said ++ 0 ∷ []) ++ rest ≡ said ++ 0 ∷ rest
text_then said rest = append_assoc said (0 ∷ []) rest

ends_there : (said rest : List ℕ) → IsValue (text said) → position_or_len is_zero ((said ++ 0 ∷ []) ++ rest) ≡ length said
ends_there said rest is = ap (position_or_len is_zero) (text_then said rest) ∙ text_ends said rest (not_control said is)

pub width_of_first : (datum : Datum) (rest : List ℕ) → MayBeKept datum → first_width (kept_datum datum ++ rest) ≡ length (kept_datum datum)
width_of_first null rest may = refl
width_of_first (number n) rest may = refl
width_of_first (text said) rest may =
    let long : length (said ++ 0 ∷ []) ≡ length said + 1 = length-append said (0 ∷ []) in
    let ends : position_or_len is_zero ((said ++ 0 ∷ []) ++ rest) ≡ length said = ends_there said rest may.0 in
    omega arith

pub first_is : (datum : Datum) (rest : List ℕ) → MayBeKept datum → first_datum (kept_datum datum ++ rest) ≡ datum
first_is null rest may = refl
first_is (number n) rest may =
    let eight : take 8 (to_be_bytes w64 (above_least n) ++ rest) ≡ to_be_bytes w64 (above_least n) = take_at (to_be_bytes w64 (above_least n)) rest 8 refl in
    let back : from_be_bytes w64 (to_be_bytes w64 (above_least n)) ≡ above_least n = from_be_bytes-to_be_bytes_8 (above_least n) (above_below n may.0) in
    ap (λ (l : List ℕ). number (pos (from_be_bytes w64 l) -ℤ pos (2 ^ 63))) eight ∙ ap (λ (k : ℕ). number (pos k -ℤ pos (2 ^ 63))) back
    ∙ ap (λ (z : ℤ). number (z -ℤ pos (2 ^ 63))) (above_is n may.0) ∙ ap number (+ℤ-neg_ℤ_cancel n (pos (2 ^ 63)))
first_is (text said) rest may =
    ap (λ (k : ℕ). text (take k ((said ++ 0 ∷ []) ++ rest))) (ends_there said rest may.0)
    ∙ ap text (ap (take (length said)) (text_then said rest) ∙ take_at said (0 ∷ rest) (length said) refl)

pub datum_some : (datum : Datum) → 1 ≤ length (kept_datum datum)
datum_some null = omega arith
datum_some (number n) = omega arith
datum_some (text said) = omega arith

within_step : (most : ℕ) (bytes : List ℕ) → 1 ≤ length bytes → row_within (suc most) bytes ≡ first_datum bytes ∷ row_within most (drop (first_width bytes) bytes)
within_step most [] some = absurd (omega arith)
within_step most (b ∷ bytes) some = refl

within_kept : (most : ℕ) (row : Row) → AllByRecursion MayBeKept row → length (kept_bytes row) ≤ most → row_within most (kept_bytes row) ≡ row
within_kept zero [] all fits = refl
within_kept (suc most) [] all fits = refl
within_kept zero (d ∷ row) all fits =
    let some = datum_some d in
    absurd (omega (arith, length-append (kept_datum d) (kept_bytes row)))
within_kept (suc most) (d ∷ row) all fits =
    let some = datum_some d in
    let long : length (kept_datum d ++ kept_bytes row) ≡ length (kept_datum d) + length (kept_bytes row) = length-append (kept_datum d) (kept_bytes row) in
    within_step most (kept_datum d ++ kept_bytes row) (omega arith)
    ∙ ap (λ e. e ∷ row_within most (drop (first_width (kept_datum d ++ kept_bytes row)) (kept_datum d ++ kept_bytes row))) (first_is d (kept_bytes row) all.0)
    ∙ ap (λ l. d ∷ row_within most l) (drop_at (kept_datum d) (kept_bytes row) _ (sym (width_of_first d (kept_bytes row) all.0)))
    ∙ ap (λ r. d ∷ r) (within_kept most row all.1 (omega arith))

-- The row that bytes keep is the one that is read in them.
pub row_is : (bytes : List ℕ) (row : Row) → Keeps bytes row → row_in bytes ≡ row
unfolding row_in
row_is bytes row h =
    let short : length (kept_bytes row) ≤ length bytes = omega (arith, ap length h.bytes_are) in
    ap (row_within (length bytes)) h.bytes_are ∙ within_kept (length bytes) row h.values short

pub keeps_row_in : (bytes : List ℕ) (row : Row) → Keeps bytes row → Keeps bytes (row_in bytes)
keeps_row_in bytes row h = subst (λ r. Keeps bytes r) (sym (row_is bytes row h)) h

-- What an opened row keeps, as the slice of its bytes.
pub kept_now : (slice bytes : List ℕ) (row : Row) → slice ≡ bytes → row_in bytes ≡ row → Keeps bytes (row_in bytes) → Keeps slice row
kept_now slice bytes row same view h = keeps_is bytes slice (row_in bytes) row (sym same) view h

-- the first value, and those after it
pub front_keeps : (bytes : List ℕ) (row : Row) → Keeps bytes row → Keeps (take (first_width bytes) bytes) (take 1 row)
front_keeps bytes [] h = keeps_is [] _ [] [] (sym (ap (λ l. take (first_width l) l) h.bytes_are)) refl keeps_none
front_keeps bytes (d ∷ row) h =
    let wide : first_width bytes ≡ length (kept_datum d) = ap first_width h.bytes_are ∙ width_of_first d (kept_bytes row) h.values.0 in
    keeps_one d _ h.values.0 (ap (take (first_width bytes)) h.bytes_are ∙ take_at (kept_datum d) (kept_bytes row) (first_width bytes) (sym wide))

pub rest_keeps : (bytes : List ℕ) (row : Row) → Keeps bytes row → Keeps (drop (first_width bytes) bytes) (drop 1 row)
rest_keeps bytes [] h = keeps_is [] _ [] [] (sym (ap (λ l. drop (first_width l) l) h.bytes_are)) refl keeps_none
rest_keeps bytes (d ∷ row) h =
    let wide : first_width bytes ≡ length (kept_datum d) = ap first_width h.bytes_are ∙ width_of_first d (kept_bytes row) h.values.0 in
    record {
      values = h.values.1;
      bytes_are = ap (drop (first_width bytes)) h.bytes_are ∙ drop_at (kept_datum d) (kept_bytes row) (first_width bytes) (sym wide);
    }

-- The first value does not reach past the bytes.
pub first_fits : (bytes : List ℕ) (row : Row) → Keeps bytes row → first_width bytes ≤ length bytes
first_fits bytes [] h = let none : first_width bytes ≡ 0 = ap first_width h.bytes_are in omega arith
first_fits bytes (d ∷ row) h =
    let wide : first_width bytes ≡ length (kept_datum d) = ap first_width h.bytes_are ∙ width_of_first d (kept_bytes row) h.values.0 in
    omega (arith, ap length h.bytes_are, length-append (kept_datum d) (kept_bytes row))
