-- The record of a row has the fields of its cells.
use Rattle.std.proofs.Common.{◌≡◌, ◌≢◌, ◌∙◌, ◌==◌, ◌&&◌, ◌++◌, ◌+◌, ◌-◌, ◌≤◌, ℕ, suc, ℤ, pos, negsuc, Bool, true, false, not, cond, List, [], ◌∷◌, length, length-append, get_or, take, map, codes, decimal, refl, sym, ap, subst, append_assoc, append-nil, arith, eqb-true, ne_eqb}
use Rattle.std.specs.Fmt.{signed_decimal}
use Rattle.std.specs.List.{AllByRecursion, join_with_byte}
use Rattle.std.specs.Str.{bytes_eq}
use Rattle.std.proofs.lemmas.Fmt.{digits_decimal}
use Rattle.std.proofs.lemmas.Slice.Eq.{bytes_eq-Decides}
use Rattle.rs_csv_answers.specs.Cells.{Cell, IsCell, IsPlain, IsShort, bare, cell_field, cell_text, csv_of, row_of, value}
use Rattle.rs_csv_answers.specs.Records.{field_of, fields_from, quotes_single, record_of, text_field, without_last}
use Rattle.rs_measure.specs.FixedPoint.{AreDigits}
use Rattle.rs_measure.proofs.FixedPoint.{numerals}
use Rattle.rs_value.specs.Row.{null, number, text}
use Rattle.rs_value.specs.Text.{datum_text, quotes_doubled}

-- ---- where a row is cut

-- a byte more of a field, after which quotes are open or not
goes-on : (is_quoted after : Bool) (begun bytes : List ℕ) (byte : ℕ) → (byte == 32 && not is_quoted) ≡ false → cond (byte == 39) (not is_quoted) is_quoted ≡ after
    → fields_from is_quoted begun (byte ∷ bytes) ≡ fields_from after (begun ++ byte ∷ []) bytes
goes-on is_quoted after begun bytes byte goes turned = rw (goes, turned) refl

and-no : (a b : Bool) → b ≡ false → (a && b) ≡ false
and-no true b e = e
and-no false b e = refl

no-and : (a b : Bool) → a ≡ false → (a && b) ≡ false
no-and a b e = rw e refl

more-begun : (is_quoted : Bool) (begun front rest : List ℕ) (byte : ℕ) → fields_from is_quoted ((begun ++ byte ∷ []) ++ front) rest ≡ fields_from is_quoted (begun ++ byte ∷ front) rest
more-begun is_quoted begun front rest byte = ap (λ l. fields_from is_quoted l rest) (append_assoc begun (byte ∷ []) front)

-- plain bytes
plain-scan : (begun bytes rest : List ℕ) → AllByRecursion IsPlain bytes → fields_from false begun (bytes ++ rest) ≡ fields_from false (begun ++ bytes) rest
plain-scan begun [] rest plain = ap (λ l. fields_from false l rest) (sym (append-nil begun))
plain-scan begun (byte ∷ bytes) rest plain =
    goes-on false false begun (bytes ++ rest) byte (no-and (byte == 32) true (ne_eqb byte 32 plain.0.0)) (ap (λ b. cond b true false) (ne_eqb byte 39 plain.0.1))
    ∙ plain-scan (begun ++ byte ∷ []) bytes rest plain.1 ∙ more-begun false begun bytes rest byte

-- the bytes between quotes, each quote among them doubled
quoted-scan : (begun bytes rest : List ℕ) → fields_from true begun (quotes_doubled bytes ++ rest) ≡ fields_from true (begun ++ quotes_doubled bytes) rest
quoted-scan begun [] rest = ap (λ l. fields_from true l rest) (sym (append-nil begun))
quoted-scan begun (byte ∷ bytes) rest = go (byte == 39) refl (λ more. quoted-scan more bytes rest)
  where
    go : (b : Bool) → (byte == 39) ≡ b → ((more : List ℕ) → fields_from true more (quotes_doubled bytes ++ rest) ≡ fields_from true (more ++ quotes_doubled bytes) rest)
        → fields_from true begun (cond b (codes "''" ++ quotes_doubled bytes) (byte ∷ quotes_doubled bytes) ++ rest)
        ≡ fields_from true (begun ++ cond b (codes "''" ++ quotes_doubled bytes) (byte ∷ quotes_doubled bytes)) rest
    go true same then =
        goes-on true false begun (39 ∷ (quotes_doubled bytes ++ rest)) 39 refl refl
        ∙ goes-on false true (begun ++ 39 ∷ []) (quotes_doubled bytes ++ rest) 39 refl refl
        ∙ then ((begun ++ 39 ∷ []) ++ 39 ∷ [])
        ∙ more-begun true (begun ++ 39 ∷ []) (quotes_doubled bytes) rest 39 ∙ more-begun true begun (39 ∷ quotes_doubled bytes) rest 39
    go false same then =
        goes-on true true begun (quotes_doubled bytes ++ rest) byte (and-no (byte == 32) false refl) (ap (λ b. cond b false true) same)
        ∙ then (begun ++ byte ∷ []) ∙ more-begun true begun (quotes_doubled bytes) rest byte

text-scan : (bytes rest : List ℕ) → fields_from false [] (datum_text (text bytes) ++ rest) ≡ fields_from false (datum_text (text bytes)) rest
text-scan bytes rest =
    goes-on false true [] ((quotes_doubled bytes ++ 39 ∷ []) ++ rest) 39 refl refl
    ∙ ap (λ l. fields_from true (39 ∷ []) l) (append_assoc (quotes_doubled bytes) (39 ∷ []) rest)
    ∙ quoted-scan (39 ∷ []) bytes (39 ∷ rest)
    ∙ goes-on true false (39 ∷ quotes_doubled bytes) rest 39 refl refl

-- ---- the texts of numbers

digit-plain : (byte : ℕ) → 48 ≤ byte → byte ≤ 57 → IsPlain byte
digit-plain byte low high = (
  (λ e. let wrong : 48 ≤ 32 = subst (λ b. 48 ≤ b) e low in absurd (omega (arith, wrong))),
  (λ e. let wrong : 48 ≤ 39 = subst (λ b. 48 ≤ b) e low in absurd (omega (arith, wrong))),
)

digits-plain : (digits : List ℕ) → AreDigits digits → AllByRecursion IsPlain digits
digits-plain [] are = tt
digits-plain (d ∷ ds) are = (digit-plain d are.0 are.1, digits-plain ds are.2)

-- a first byte up to 57 begins no NULL
not-null : (byte : ℕ) (bytes : List ℕ) → byte ≤ 57 → byte ∷ bytes ≢ codes "NULL"
not-null byte bytes low e =
    let first : byte ≡ 78 = ap (λ l. get_or l 0 78) e in
    let wrong : 78 ≤ 57 = subst (λ b. b ≤ 57) first low in
    absurd (omega (arith, wrong))

digits-no-null : (digits : List ℕ) → AreDigits digits → digits ≢ codes "NULL"
digits-no-null [] are e = cc
digits-no-null (d ∷ ds) are e = not-null d ds are.1 e

digits-only : (digits : List ℕ) → AreDigits digits → AllByRecursion IsPlain digits × (digits ≢ codes "NULL")
digits-only digits are = (digits-plain digits are, digits-no-null digits are)

minus-plain : IsPlain 45
minus-plain = ((λ e. cc), (λ e. cc))

after-minus : (digits : List ℕ) → AreDigits digits → AllByRecursion IsPlain (45 ∷ digits) × (45 ∷ digits ≢ codes "NULL")
after-minus digits are = ((minus-plain, digits-plain digits are), not-null 45 digits (omega arith))

number-plain : (n : ℤ) → IsShort n → AllByRecursion IsPlain (signed_decimal n) × (signed_decimal n ≢ codes "NULL")
number-plain (pos n) short = digits-only (decimal n) (digits_decimal numerals n short)
number-plain (negsuc n) short = after-minus (decimal (suc n)) (digits_decimal numerals (suc n) short)

-- ---- the field of a cell

not-equal : (a b : List ℕ) → a ≢ b → bytes_eq a b ≡ false
not-equal a b differ = go (bytes_eq a b) refl
  where
    go : (t : Bool) → bytes_eq a b ≡ t → t ≡ false
    go true same = absurd (differ ((bytes_eq-Decides a b).0 same))
    go false same = refl

plain-field : (bytes : List ℕ) → AllByRecursion IsPlain bytes → bytes ≢ codes "NULL" → field_of bytes ≡ bytes
plain-field [] plain named = refl
plain-field (byte ∷ bytes) plain named = rw (ne_eqb byte 39 plain.0.1, not-equal (byte ∷ bytes) (codes "NULL") named) refl

take-front : (xs : List ℕ) (x : ℕ) → without_last (xs ++ x ∷ []) ≡ xs
take-front [] x = refl
take-front (y ∷ ys) x = ap (λ n. take n (y ∷ (ys ++ x ∷ []))) (count (length-append ys (x ∷ []))) ∙ ap (λ l. y ∷ l) (ap (λ n. take n (ys ++ x ∷ [])) (less (length-append ys (x ∷ []))) ∙ take-front ys x)
  where
    count : length (ys ++ x ∷ []) ≡ length ys + 1 → length (y ∷ (ys ++ x ∷ [])) - 1 ≡ suc (length ys)
    count e = omega (arith, e)

    less : length (ys ++ x ∷ []) ≡ length ys + 1 → length ys ≡ length (ys ++ x ∷ []) - 1
    less e = omega (arith, e)

single-doubled : (bytes : List ℕ) → quotes_single false (quotes_doubled bytes) ≡ bytes
single-doubled [] = refl
single-doubled (byte ∷ bytes) = go (byte == 39) refl (single-doubled bytes)
  where
    go : (b : Bool) → (byte == 39) ≡ b → quotes_single false (quotes_doubled bytes) ≡ bytes
        → quotes_single false (cond b (codes "''" ++ quotes_doubled bytes) (byte ∷ quotes_doubled bytes)) ≡ byte ∷ bytes
    go true same rest = ap (λ l. 39 ∷ l) rest ∙ ap (λ b. b ∷ bytes) (sym (eqb-true byte 39 same))
    go false same rest = ap (λ b. byte ∷ quotes_single b (quotes_doubled bytes)) same ∙ ap (λ l. byte ∷ l) rest

text-field-of : (bytes : List ℕ) → field_of (datum_text (text bytes)) ≡ text_field bytes
text-field-of bytes = ap (λ l. text_field (quotes_single false l)) (take-front (quotes_doubled bytes) 39) ∙ ap text_field (single-doubled bytes)

cell-scan : (cell : Cell) (rest : List ℕ) → IsCell cell → fields_from false [] (cell_text cell ++ rest) ≡ fields_from false (cell_text cell) rest
cell-scan (bare bytes) rest is = plain-scan [] bytes rest is.0
cell-scan (value null) rest is = refl
cell-scan (value (number n)) rest is = plain-scan [] (signed_decimal n) rest (number-plain n is).0
cell-scan (value (text bytes)) rest is = text-scan bytes rest

cell-is : (cell : Cell) → IsCell cell → field_of (cell_text cell) ≡ cell_field cell
cell-is (bare bytes) is = plain-field bytes is.0 is.1
cell-is (value null) is = refl
cell-is (value (number n)) is =
    let plain = number-plain n is in
    plain-field (signed_decimal n) plain.0 plain.1
cell-is (value (text bytes)) is = text-field-of bytes

-- ---- all of them

all-fields : (cells : List Cell) → AllByRecursion IsCell cells → fields_from false [] (row_of cells) ≡ join_with_byte 44 (map cell_field cells)
all-fields [] are = refl
all-fields (cell ∷ []) are =
    ap (λ l. fields_from false [] l) (sym (append-nil (cell_text cell))) ∙ cell-scan cell [] are.0 ∙ cell-is cell are.0
all-fields (cell ∷ other ∷ cells) are =
    cell-scan cell (32 ∷ row_of (other ∷ cells)) are.0
    ∙ ap (λ l. l ++ 44 ∷ fields_from false [] (row_of (other ∷ cells))) (cell-is cell are.0)
    ∙ ap (λ l. cell_field cell ++ 44 ∷ l) (all-fields (other ∷ cells) are.1)

pub record_is : (cells : List Cell) → AllByRecursion IsCell cells → record_of (row_of cells) ≡ csv_of cells
record_is cells are = ap (λ l. l ++ 10 ∷ []) (all-fields cells are)
