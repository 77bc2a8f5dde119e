-- What is read at the front of bytes that keep a row.
use Rattle.std.proofs.Common.{◌≡◌, ◌≢◌, ℕ, ◌+◌, ◌^◌, ◌<◌, ◌≤◌, min, ℤ, pos, ◌+ℤ◌, ◌-ℤ◌, List, [], ◌∷◌, ◌++◌, length, take, drop, get_or, sym, ap, ◌∙◌, subst, arith, length-append}
use Rattle.std.proofs.Math.IntN.{+ℤ-neg_ℤ_cancel}
use Rattle.std.specs.List.{position_or_len}
use Rattle.std.specs.Int.{w64, to_be_bytes, from_be_bytes}
use Rattle.std.proofs.lemmas.List.{drop-drop}
use Rattle.std.proofs.lemmas.Nat.{from_be_bytes-to_be_bytes_8}
use Rattle.rs_value.specs.Row.{Datum, null, number, text, Row}
use Rattle.rs_value.specs.Kept.{kept_datum, kept_bytes, Keeps, is_zero, first_width, first_datum}
use Rattle.rs_value.proofs.KeptRows.{front_keeps, rest_keeps, first_fits, first_is, datum_some}

pub front_cut : (bytes front : List ℕ) (place : ℕ) (row : Row) → place ≡ min (first_width bytes) (length bytes) → front ≡ take place bytes → Keeps bytes row → Keeps front (take 1 row)
front_cut bytes front place row at is h =
    let fits = first_fits bytes row h in
    let there : first_width bytes ≡ place = omega arith in
    subst (λ l. Keeps l (take 1 row)) (ap (λ n. take n bytes) there ∙ sym is) (front_keeps bytes row h)

pub rest_cut : (bytes rest : List ℕ) (place : ℕ) (row : Row) → place ≡ min (first_width bytes) (length bytes) → rest ≡ drop place bytes → Keeps bytes row → Keeps rest (drop 1 row)
rest_cut bytes rest place row at is h =
    let fits = first_fits bytes row h in
    let there : first_width bytes ≡ place = omega arith in
    subst (λ l. Keeps l (drop 1 row)) (ap (λ n. drop n bytes) there ∙ sym is) (rest_keeps bytes row h)

-- the value at the front of the bytes is the first of the row
pub first_of : (bytes : List ℕ) (row : Row) → Keeps bytes row → first_datum bytes ≡ get_or row 0 null
first_of bytes [] h = ap first_datum h.bytes_are
first_of bytes (d ∷ row) h = ap first_datum h.bytes_are ∙ first_is d (kept_bytes row) h.values.0

-- the first byte says which value it is
mark_number : (d : Datum) (rest left : List ℕ) → 1 ∷ rest ≡ kept_datum d ++ left → 8 ≤ length rest
mark_number null rest left e = cc
mark_number (number n) rest left e =
    let long : length (1 ∷ rest) ≡ length (kept_datum (number n)) + length left = ap length e ∙ length-append (kept_datum (number n)) left in
    omega arith
mark_number (text said) rest left e = cc

pub eight_left : (bytes rest : List ℕ) (mark : ℕ) (row : Row) → bytes ≡ mark ∷ rest → mark ≡ 1 → Keeps bytes row → 8 ≤ length rest
eight_left bytes rest mark [] is one h = let none : mark ∷ rest ≡ [] = sym is ∙ h.bytes_are in cc
eight_left bytes rest mark (d ∷ row) is one h = mark_number d rest (kept_bytes row) (ap (λ m. m ∷ rest) (sym one) ∙ sym is ∙ h.bytes_are)

pub null_read : (bytes rest : List ℕ) (mark : ℕ) (row : Row) → bytes ≡ mark ∷ rest → mark ≡ 0 → Keeps bytes row → null ≡ get_or row 0 null
null_read bytes rest mark row is none h =
    sym (ap first_datum is ∙ ap (λ m. first_datum (m ∷ rest)) none) ∙ first_of bytes row h

pub number_read : (bytes rest : List ℕ) (mark : ℕ) (n : ℤ) (row : Row) → bytes ≡ mark ∷ rest → mark ≡ 1 → pos (from_be_bytes w64 (take 8 rest)) ≡ n +ℤ pos (2 ^ 63)
    → Keeps bytes row → number n ≡ get_or row 0 null
number_read bytes rest mark n row is one at h =
    let said : pos (from_be_bytes w64 (take 8 rest)) -ℤ pos (2 ^ 63) ≡ n = ap (λ (z : ℤ). z -ℤ pos (2 ^ 63)) at ∙ +ℤ-neg_ℤ_cancel n (pos (2 ^ 63)) in
    ap number (sym said) ∙ sym (ap first_datum is ∙ ap (λ m. first_datum (m ∷ rest)) one) ∙ first_of bytes row h

other_mark : (d : Datum) (mark : ℕ) (rest left : List ℕ) → mark ∷ rest ≡ kept_datum d ++ left → mark ≢ 0 → mark ≢ 1 → mark ≡ 2
other_mark null mark rest left e some other = let is : mark ≡ 0 = cc in absurd (some is)
other_mark (number n) mark rest left e some other = let is : mark ≡ 1 = cc in absurd (other is)
other_mark (text said) mark rest left e some other = cc

pub text_read : (bytes rest said : List ℕ) (mark place : ℕ) (row : Row) → bytes ≡ mark ∷ rest → mark ≢ 0 → mark ≢ 1 → place ≡ position_or_len is_zero rest → said ≡ take place rest
    → Keeps bytes row → text said ≡ get_or row 0 null
text_read bytes rest said mark place [] is some other at cut h = let none : mark ∷ rest ≡ [] = sym is ∙ h.bytes_are in cc
text_read bytes rest said mark place (d ∷ row) is some other at cut h =
    let two : mark ≡ 2 = other_mark d mark rest (kept_bytes row) (sym is ∙ h.bytes_are) some other in
    let there : text (take (position_or_len is_zero rest) rest) ≡ d = sym (ap first_datum is ∙ ap (λ m. first_datum (m ∷ rest)) two) ∙ first_of bytes (d ∷ row) h in
    ap text (cut ∙ ap (λ n. take n rest) at) ∙ there

pub eight_said : (bytes eight : List ℕ) (above : ℕ) (n : ℤ) → eight ≡ take 8 bytes → above < 2 ^ 64 → to_be_bytes w64 above ≡ eight → pos above ≡ n +ℤ pos (2 ^ 63) → pos (from_be_bytes w64 (take 8 bytes)) ≡ n +ℤ pos (2 ^ 63)
eight_said bytes eight above n cut few says at =
    let back : from_be_bytes w64 (take 8 bytes) ≡ above = ap (from_be_bytes w64) (sym (says ∙ cut)) ∙ from_be_bytes-to_be_bytes_8 above few in
    ap pos back ∙ at

-- one value more is passed
pub dropped_more : (rest left : List ℕ) (count : ℕ) (row : Row) → ((r : Row) → Keeps rest r → Keeps left (drop 1 r)) → Keeps rest (drop count row) → Keeps left (drop (count + 1) row)
dropped_more rest left count row one h = subst (λ r. Keeps left r) (drop-drop 1 count row) (one (drop count row) h)

-- each value takes a byte at least
few_kept : (row : Row) → length row ≤ length (kept_bytes row)
few_kept [] = omega arith
few_kept (d ∷ row) =
    let some = datum_some d in
    let more = few_kept row in
    omega (arith, length-append (kept_datum d) (kept_bytes row))

pub few_values : (bytes : List ℕ) (row : Row) → Keeps bytes row → length row ≤ length bytes
few_values bytes row h =
    let few = few_kept row in
    omega (arith, ap length h.bytes_are)
