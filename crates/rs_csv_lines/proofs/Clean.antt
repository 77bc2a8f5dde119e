-- No control character is put into a line.
use Rattle.std.proofs.Common.{◌≡◌, ◌∙◌, ℕ, zero, suc, ◌+◌, ◌/◌, ◌%◌, ◌<◌, Bool, true, false, not, ◌||◌, List, [], ◌∷◌, ◌++◌, take, drop, refl, sym, subst, arith, inl, inr, decimal, ◌≤◌}
use Rattle.std.specs.Prelude.{codes, ◌==◌, nat_lt, if◌then◌else◌, IsUtf8}
use Rattle.std.specs.Char.{is_ascii_alphabetic}
use Rattle.std.specs.List.{list_all, list_any}
use Rattle.std.specs.Str.{is_utf8}
use Rattle.std.proofs.lemmas.Bool.{false≢true, and_parts}
use Rattle.std.proofs.lemmas.Bool.Decides.{nat_tests}
use Rattle.std.proofs.lemmas.List.Folds.{list_any-append}
use Rattle.std.proofs.lemmas.Fmt.{digits_decimal}
use Rattle.std.proofs.lemmas.Str.{is_utf8-from_IsUtf8}
use Rattle.rs_grammar.specs.Words.{is_word_byte}
use Rattle.rs_lexer.specs.declared.token.Token.{Token}
use Rattle.rs_lexer.specs.Lexis.{token_text}
use Rattle.rs_measure.specs.FixedPoint.{AreDigits, three_digits}
use Rattle.rs_measure.specs.Measure.{measure_text}
use Rattle.rs_measure.proofs.FixedPoint.{numerals}
use Rattle.rs_methods.specs.PositionText.{IsWord}
use Rattle.rs_methods.specs.Position.{PositionExpression, expression_text, relative_of}
use Rattle.rs_methods.specs.declared.position.Sign.{Sign}
use Rattle.rs_methods.specs.declared.position.Sign.TheVariants.{Plus, Minus}
use Rattle.rs_value.specs.declared.column.ColumnType.{ColumnType}
use Rattle.rs_value.specs.declared.column.ColumnType.TheVariants as types
use Rattle.rs_value.specs.Row.{Datum, Row, null}
use Rattle.rs_value.specs.Values.{is_text, is_control}
use Rattle.rs_value.specs.Text.{quotes_doubled}
use Rattle.rs_syntax.specs.declared.written.WrittenPosition.{WrittenPosition}
use Rattle.rs_syntax.specs.declared.written.WrittenPosition.TheVariants as written_positions
use Rattle.rs_syntax.specs.Tree.{EventLocationTree, along, at_point}
use Rattle.rs_csv_lines.specs.declared.plan.Measures.{Measures}
use Rattle.rs_csv_lines.specs.declared.plan.Column.{Column}
use Rattle.rs_csv_lines.specs.declared.plan.Place.{Place}
use Rattle.rs_csv_lines.specs.declared.plan.Place.TheVariants as places
use Rattle.rs_csv_lines.specs.Fields.{content, sign_text, SaysName, WritesBeside}
use Rattle.rs_csv_lines.specs.declared.plan.Scale.{Scale}
use Rattle.rs_csv_lines.specs.Texts.{session_text, position_text, signed_text, PutsPosition, PutsNumber, PutsDatum}
use Rattle.rs_csv_lines.proofs.NumberTexts.{three_are}
use Rattle.rs_csv_lines.proofs.Spelled.{referent_name}
use Rattle.rs_csv_lines.proofs.Stations.{measure_in_range}
use Rattle.rs_csv_lines.specs.Inserts.{PutsPositionAt, PutsPlace, PutsFurther, PutsRow, insert_line}

abbrev pub IsClean : List ℕ → Type 0
IsClean bytes = list_any is_control bytes ≡ false

neither : (a b : Bool) → a ≡ false → b ≡ false → (a || b) ≡ false
neither true b p q = p
neither false b p q = q

both_false : (a b : Bool) → (a || b) ≡ false → (a ≡ false) × (b ≡ false)
both_false true b e = absurd (false≢true (sym e))
both_false false b e = (refl, e)

pub clean_append : (a b : List ℕ) → IsClean a → IsClean b → IsClean (a ++ b)
clean_append a b p q = list_any-append is_control a b ∙ neither _ _ p q

clean_front : (a b : List ℕ) → IsClean (a ++ b) → IsClean a
clean_front a b p = (both_false (list_any is_control a) (list_any is_control b) (sym (list_any-append is_control a b) ∙ p)).0

clean_take : (n : ℕ) (bytes : List ℕ) → IsClean bytes → IsClean (take n bytes)
clean_take zero bytes p = refl
clean_take (suc n) [] p = refl
clean_take (suc n) (b ∷ bs) p = let parts = both_false (is_control b) (list_any is_control bs) p in neither _ _ parts.0 (clean_take n bs parts.1)

clean_drop : (n : ℕ) (bytes : List ℕ) → IsClean bytes → IsClean (drop n bytes)
clean_drop zero bytes p = p
clean_drop (suc n) [] p = refl
clean_drop (suc n) (b ∷ bs) p = clean_drop n bs (both_false (is_control b) (list_any is_control bs) p).1

clean_token : (text : List ℕ) (token : Token) → IsClean text → IsClean (token_text text token)
clean_token text token p = clean_take token.length (drop token.first text) (clean_drop token.first text p)

not_true : (b : Bool) → not b ≡ true → b ≡ false
not_true true e = absurd (false≢true e)
not_true false e = refl

-- a text has none
pub clean_text : (bytes : List ℕ) → is_text bytes ≡ true → IsClean bytes
clean_text bytes is = not_true _ (and_parts (is_utf8 bytes) (not (list_any is_control bytes)) is).1

pub is_clean_text : (bytes : List ℕ) → IsUtf8 bytes → IsClean bytes → is_text bytes ≡ true
is_clean_text bytes utf8 clean = rw (is_utf8-from_IsUtf8 bytes utf8, clean) refl

word_byte_clean : (byte : ℕ) → is_word_byte byte ≡ true → is_control byte ≡ false
word_byte_clean byte is = grind (arith, nat_tests)

letter_clean : (byte : ℕ) → is_ascii_alphabetic byte ≡ true → is_control byte ≡ false
letter_clean byte is = grind (arith, nat_tests)

word_clean : (bytes : List ℕ) → list_all is_word_byte bytes ≡ true → IsClean bytes
word_clean [] is = refl
word_clean (b ∷ bs) is = let parts = and_parts (is_word_byte b) (list_all is_word_byte bs) is in neither _ _ (word_byte_clean b parts.0) (word_clean bs parts.1)

pub name_clean : (name : List ℕ) → IsWord name → IsClean name
name_clean [] is = absurd is
name_clean (letter ∷ bytes) is = neither _ _ (letter_clean letter is.0) (word_clean bytes is.1)

digit_clean : (n : ℕ) → n < 64 → is_control (48 + n) ≡ false
digit_clean n few = grind (arith, nat_tests)

pub session_clean : (n : ℕ) → n < 64 → IsClean (session_text n)
session_clean n few =
    let one : n / 10 < 64 = omega arith in
    let other : n % 10 < 64 = omega arith in
    elim (nat_lt n 10) as (λ b. IsClean (if b then (48 + n) ∷ [] else (48 + n / 10) ∷ (48 + n % 10) ∷ []))
    [ true ↦ neither _ _ (digit_clean n few) refl | false ↦ neither _ _ (digit_clean (n / 10) one) (neither _ _ (digit_clean (n % 10) other) refl) ]

doubled_clean : (bytes : List ℕ) → IsClean bytes → IsClean (quotes_doubled bytes)
doubled_clean [] p = refl
doubled_clean (b ∷ bs) p =
    let parts = both_false (is_control b) (list_any is_control bs) p in
    elim (b == 39) as (λ v. IsClean (if v then codes "''" ++ quotes_doubled bs else b ∷ quotes_doubled bs)) [ true ↦ doubled_clean bs parts.1 | false ↦ neither _ _ parts.0 (doubled_clean bs parts.1) ]

position_clean : (field : List ℕ) (written : WrittenPosition) → IsClean field → IsClean (position_text field written)
position_clean field (written_positions.Measure measure) p = clean_token field measure p
position_clean field (written_positions.Percentage digits) p = clean_append (token_text field digits) (codes "%") (clean_token field digits p) refl
position_clean field (written_positions.Referent name) p = clean_token field name p
position_clean field (written_positions.Beyond name measure) p =
    clean_append (codes "@" ++ token_text field name ++ codes "+") (token_text field measure) (clean_append (codes "@" ++ token_text field name) (codes "+") (clean_token field name p) refl) (clean_token field measure p)
position_clean field (written_positions.Before name measure) p =
    clean_append (codes "@" ++ token_text field name ++ codes "-") (token_text field measure) (clean_append (codes "@" ++ token_text field name) (codes "-") (clean_token field name p) refl) (clean_token field measure p)

digits_clean : (digits : List ℕ) → AreDigits digits → IsClean digits
digits_clean [] are = refl
digits_clean (d ∷ ds) are = neither _ _ (one d are.0 are.1) (digits_clean ds are.2)
  where
    one : (d : ℕ) → 48 ≤ d → d ≤ 57 → is_control d ≡ false
    one d low high = grind (arith, nat_tests)

pub measure_clean : (n : ℕ) → n ≤ 999999999 → IsClean (measure_text n)
measure_clean n few =
    clean_append (decimal (n / 1000) ++ codes ".") (three_digits (n % 1000)) (clean_append (decimal (n / 1000)) (codes ".") (digits_clean (decimal (n / 1000)) (digits_decimal numerals (n / 1000) (omega arith))) refl)
    (digits_clean (three_digits (n % 1000)) (three_are (n % 1000) (omega arith)))

beside_clean : (rounds : Bool) (field name : List ℕ) (sign : Sign) (n : ℕ) → IsClean field → WritesBeside rounds field name sign n → IsClean (expression_text (relative_of name sign n))
beside_clean rounds field name sign n p writes =
    let front : IsClean writes.front = clean_front writes.front (sign_text sign) (clean_front (writes.front ++ sign_text sign) writes.number (subst IsClean writes.cut p)) in
    let named : IsClean name = subst IsClean (sym (referent_name writes.front name writes.referent writes.named)) (clean_token writes.front writes.referent front) in
    by_sign sign (clean_append (codes "@") name refl named) (measure_clean n writes.written.0.in_range)
  where
    by_sign : (sign : Sign) → IsClean (codes "@" ++ name) → IsClean (measure_text n) → IsClean (expression_text (relative_of name sign n))
    by_sign Plus a b = clean_append (codes "@" ++ name ++ codes "+") (measure_text n) (clean_append (codes "@" ++ name) (codes "+") a refl) b
    by_sign Minus a b = clean_append (codes "@" ++ name ++ codes "-") (measure_text n) (clean_append (codes "@" ++ name) (codes "-") a refl) b

signed_clean : (is_negative : Bool) (digits : List ℕ) → IsClean digits → IsClean (signed_text is_negative digits)
signed_clean true digits p = p
signed_clean false digits p = p

number_clean : (scale : Scale) (field : List ℕ) (datum : Datum) (bytes : List ℕ) → IsClean field → PutsNumber scale field datum bytes → IsClean bytes
number_clean scale field datum bytes p (inl puts) = subst IsClean (sym puts.4) (signed_clean puts.0 (token_text field puts.1) (clean_token field puts.1 p))
number_clean scale field datum bytes p (inr puts) = subst IsClean (sym puts.4) (signed_clean puts.0 (decimal puts.1) (digits_clean (decimal puts.1) (digits_decimal numerals puts.1 (omega (arith, puts.2.few)))))

datum_clean : (type : ColumnType) (scale : Scale) (field : List ℕ) (datum : Datum) (bytes : List ℕ) → IsClean (content field) → PutsDatum type scale field datum bytes → IsClean bytes
datum_clean type scale [] datum bytes p puts = null_clean datum bytes puts
  where
    null_clean : (datum : Datum) (bytes : List ℕ) → (datum ≡ null) × (bytes ≡ codes "NULL") → IsClean bytes
    null_clean datum bytes puts = subst IsClean (sym puts.1) refl
datum_clean types.Int scale (byte ∷ rest) datum bytes p puts = number_clean scale (content (byte ∷ rest)) datum bytes p puts
datum_clean (types.Text most) scale (byte ∷ rest) datum bytes p puts =
    subst IsClean (sym puts.1) (clean_append (codes "'" ++ quotes_doubled (content (byte ∷ rest))) (codes "'") (doubled_clean (content (byte ∷ rest)) p) refl)

module _ (reading : Measures) (number_of : ℕ) (fields : List (List ℕ)) where
  position_put_clean : (i : ℕ) (position : PositionExpression) (bytes : List ℕ) → PutsPositionAt reading fields i position bytes → IsClean bytes
  position_put_clean i position bytes puts = of_field (content puts.0) (clean_text (content puts.0) puts.2) puts.3
    where
      of_field : (field : List ℕ) → IsClean field → PutsPosition reading field position bytes → IsClean bytes
      of_field field p (inl put) = subst IsClean (sym put.2) (position_clean field put.0 p)
      of_field field p (inr (inl put)) = subst IsClean (sym put.3) (measure_clean put.0 (measure_in_range reading field put.0 put.1))
      of_field field p (inr (inr put)) = subst IsClean (sym put.5) (beside_clean reading.rounds field put.0 put.1 put.2 p put.3)

  place_clean : (plan : Place) (location : EventLocationTree) (bytes : List ℕ) → PutsPlace reading fields plan location bytes → IsClean bytes
  place_clean (places.Along from to) (along first second) bytes puts =
      subst IsClean (sym puts.4)
      (clean_append (codes " FROM " ++ puts.0 ++ codes " TO ") puts.1
      (clean_append (codes " FROM " ++ puts.0) (codes " TO ") (clean_append (codes " FROM ") puts.0 refl (position_put_clean from first puts.0 puts.2)) refl)
      (position_put_clean to second puts.1 puts.3))
  place_clean (places.At at) (at_point position) bytes puts = subst IsClean (sym puts.2) (clean_append (codes " AT ") puts.0 refl (position_put_clean at position puts.0 puts.1))
  place_clean (places.Along from to) (at_point position) bytes puts = elim puts [ ]
  place_clean (places.At at) (along first second) bytes puts = elim puts [ ]

  further_clean : (columns : List Column) (row : Row) (bytes : List ℕ) → PutsFurther number_of fields columns row bytes → IsClean bytes
  further_clean [] [] bytes puts = subst IsClean (sym puts) refl
  further_clean (column ∷ columns) (datum ∷ row) bytes puts =
      subst IsClean (sym puts.4)
      (clean_append (codes ", " ++ puts.0) puts.1 (clean_append (codes ", ") puts.0 refl (datum_clean column.column_type column.scale puts.2.0 datum puts.0 (clean_text (content puts.2.0) puts.2.2) puts.2.3))
      (further_clean columns row puts.1 puts.3))
  further_clean [] (datum ∷ row) bytes puts = elim puts [ ]
  further_clean (column ∷ columns) [] bytes puts = elim puts [ ]

  row_clean : (columns : List Column) (row : Row) (bytes : List ℕ) → PutsRow number_of fields columns row bytes → IsClean bytes
  row_clean (column ∷ columns) (datum ∷ row) bytes puts =
      subst IsClean (sym puts.4)
      (clean_append puts.0 puts.1 (datum_clean column.column_type column.scale puts.2.0 datum puts.0 (clean_text (content puts.2.0) puts.2.2) puts.2.3) (further_clean columns row puts.1 puts.3))
  row_clean [] row bytes puts = elim puts [ ]
  row_clean (column ∷ columns) [] bytes puts = elim puts [ ]

  -- nor into a whole line
  pub line_clean : (session : ℕ) (table route place_bytes values : List ℕ) (plan : Place) (location : EventLocationTree) (columns : List Column) (row : Row) → session < 64 → IsWord table → IsClean route
      → PutsPlace reading fields plan location place_bytes → PutsRow number_of fields columns row values → IsClean (insert_line session table route place_bytes values)
  line_clean session table route place_bytes values plan location columns row few word named puts_place puts_row =
      let tail : List ℕ = values ++ codes ")" in
      let after_place : List ℕ = codes " VALUES (" ++ tail in
      let after_route : List ℕ = place_bytes ++ after_place in
      let after_table : List ℕ = codes " ON " ++ (route ++ after_route) in
      let c1 : IsClean tail = clean_append values (codes ")") (row_clean columns row values puts_row) refl in
      let c2 : IsClean after_route = clean_append place_bytes after_place (place_clean plan location place_bytes puts_place) (clean_append (codes " VALUES (") tail refl c1) in
      let c3 : IsClean after_table = clean_append (codes " ON ") (route ++ after_route) refl (clean_append route after_route named c2) in
      clean_append (session_text session) (codes " INSERT INTO " ++ (table ++ after_table)) (session_clean session few)
      (clean_append (codes " INSERT INTO ") (table ++ after_table) refl (clean_append table after_table (name_clean table word) c3))

pub route_clean : (text name : List ℕ) → is_text text ≡ true → SaysName text name → IsClean name
route_clean text name is says = subst IsClean (sym says.is) (clean_token text says.token (clean_text text is))
