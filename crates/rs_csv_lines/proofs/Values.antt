-- The text that is put for a value, and those for a row, say them wherever they stand in a line.
use Rattle.std.proofs.Common.{◌≡◌, ◌∙◌, ℕ, ◌+◌, ◌≤◌, Bool, true, false, List, [], ◌∷◌, ◌++◌, length, drop, Some, refl, sym, ap, subst, append_assoc, length-append, eqb-true, arith, inl, inr, decimal}
use Rattle.std.specs.Prelude.{codes, ◌==◌, ◌^◌, if◌then◌else◌}
use Rattle.std.proofs.lemmas.List.{map-append}
use Rattle.rs_grammar.specs.declared.kind.TokenKind.{TokenKind}
use Rattle.rs_grammar.specs.declared.kind.TokenKind.TheVariants as kinds
use Rattle.rs_grammar.specs.Grammar as grammar
use Rattle.rs_grammar.specs.Grammar.{rules, Derives, nothing, this, that, part, pick, sub, done, is_shallow}
use Rattle.rs_lexer.specs.declared.token.Token.{Token}
use Rattle.rs_lexer.specs.Lexis.{kinds_of, is_quoted_rest, token_kind, token_text, AreTokensFrom}
use Rattle.rs_lexer.proofs.CutLaws.{cut_inside}
use Rattle.rs_measure.specs.FixedPoint.{number_of_digits}
use Rattle.rs_value.specs.declared.column.ColumnType.{ColumnType}
use Rattle.rs_value.specs.declared.column.ColumnType.TheVariants as types
use Rattle.rs_value.specs.Row.{Datum, null, number, text, Row}
use Rattle.rs_value.specs.Text.{quotes_doubled, datum_text}
use Rattle.rs_syntax.specs.declared.written.WrittenValue.{WrittenValue}
use Rattle.rs_syntax.specs.declared.written.WrittenValue.TheVariants as written_values
use Rattle.rs_syntax.specs.Written.{mark, lexeme_of, lexemes_of, value_lexemes, further_lexemes, list_lexemes, signed, unquoted, unquoted_rest, AreToldOf, SaysDatum, SaysRow}
use Rattle.rs_syntax.proofs.VerdictLaws.{told_of}
use Rattle.rs_csv_lines.specs.declared.plan.Column.{Column}
use Rattle.rs_csv_lines.specs.declared.plan.Scale.{Scale}
use Rattle.rs_csv_lines.specs.Fields.{content, SpellsNumber}
use Rattle.rs_csv_lines.specs.Texts.{signed_text, PutsNumber, PutsDatum}
use Rattle.rs_csv_lines.specs.Inserts.{PutsFurther, PutsRow}
use Rattle.rs_csv_lines.proofs.Cuts.{Ends, stops, token_here, text_here, after_here, cut_here, blank_here, null_kind, minus_kind, minus_stops, comma_kind, comma_stops, comma, closing}
use Rattle.rs_csv_lines.proofs.Lexemes.{flat}
use Rattle.rs_csv_lines.proofs.NumberTexts.{amount_said, printed_amount}

-- The tokens of a line from one place up to another are a value: however the line is cut from there on, its cut has
-- them before.
pub record ValueStands (line : List ℕ) (first last : ℕ) (datum : Datum) : Type 0 where
  pub tokens : List Token
  pub cut : (rest : List Token) → AreTokensFrom line last rest → AreTokensFrom line first (tokens ++ rest)
  pub derived : (others : List TokenKind) → Derives (rules grammar.value) (kinds_of tokens ++ others) others
  pub shallow : (others : List TokenKind) → is_shallow 1 others ≡ true → is_shallow 1 (kinds_of tokens ++ others) ≡ true
  pub written : WrittenValue
  pub spelled : lexemes_of tokens ≡ value_lexemes written
  pub says : SaysDatum line written datum

-- ---- quoted texts

closes : (bytes : List ℕ) → is_quoted_rest false (quotes_doubled bytes ++ 39 ∷ []) ≡ true
closes [] = refl
closes (b ∷ bs) =
    elim (b == 39) as (λ v. (b == 39) ≡ v → is_quoted_rest false ((if v then codes "''" ++ quotes_doubled bs else b ∷ quotes_doubled bs) ++ 39 ∷ []) ≡ true)
    [ true ↦ λ e. closes bs | false ↦ λ e. ap (λ v. is_quoted_rest v (quotes_doubled bs ++ 39 ∷ [])) e ∙ closes bs ] refl

undoubled : (bytes : List ℕ) → unquoted_rest false (quotes_doubled bytes ++ 39 ∷ []) ≡ bytes
undoubled [] = refl
undoubled (b ∷ bs) =
    elim (b == 39) as (λ v. (b == 39) ≡ v → unquoted_rest false ((if v then codes "''" ++ quotes_doubled bs else b ∷ quotes_doubled bs) ++ 39 ∷ []) ≡ b ∷ bs) [
      | true ↦ λ e. ap (λ x. x ∷ unquoted_rest false (quotes_doubled bs ++ 39 ∷ [])) (sym (eqb-true b 39 e)) ∙ ap (λ xs. b ∷ xs) (undoubled bs)
      | false ↦ λ e. ap (λ v. if v then unquoted_rest true (quotes_doubled bs ++ 39 ∷ []) else b ∷ unquoted_rest false (quotes_doubled bs ++ 39 ∷ [])) e ∙ ap (λ xs. b ∷ xs) (undoubled bs)
    ] refl

quoted_kind : (bytes : List ℕ) → token_kind (datum_text (text bytes)) ≡ Some kinds.Quoted
unfolding token_kind
quoted_kind bytes = rw (closes bytes) refl

-- ---- one value

module _ (line : List ℕ) (place : ℕ) (rest : List ℕ) (ends : Ends rest) where
  null_stands : drop place line ≡ codes "NULL" ++ rest → ValueStands line place (place + length (codes "NULL")) null
  unfolding rules
  null_stands at = record {
    tokens = token_here place (codes "NULL") kinds.Null ∷ [];
    cut = λ tokens cut. cut_here line place (codes "NULL") rest kinds.Null at null_kind (stops (codes "NULL") rest kinds.Null null_kind ends) tokens cut;
    derived = λ others. this nothing;
    shallow = λ others shallow. flat kinds.Null 1 others refl (omega arith) shallow;
    written = written_values.Null;
    spelled = refl;
    says = tt;
  }

  text_stands : (bytes : List ℕ) → drop place line ≡ datum_text (text bytes) ++ rest → ValueStands line place (place + length (datum_text (text bytes))) (text bytes)
  unfolding rules
  text_stands bytes at =
      let quoted = datum_text (text bytes) in
      let here = token_here place quoted kinds.Quoted in
      record {
        tokens = here ∷ [];
        cut = λ tokens cut. cut_here line place quoted rest kinds.Quoted at (quoted_kind bytes) (stops quoted rest kinds.Quoted (quoted_kind bytes) ends) tokens cut;
        derived = λ others. that (that (that (this nothing)));
        shallow = λ others shallow. flat kinds.Quoted 1 others refl (omega arith) shallow;
        written = written_values.Quoted here;
        spelled = refl;
        says = sym (ap unquoted (text_here line place quoted rest kinds.Quoted at) ∙ undoubled bytes);
      }

  -- a sign and digits
  digits_stand : (is_negative : Bool) (digits : List ℕ) → token_kind digits ≡ Some kinds.Whole → number_of_digits digits ≤ 10 ^ 12 → drop place line ≡ signed_text is_negative digits ++ rest
      → ValueStands line place (place + length (signed_text is_negative digits)) (number (signed is_negative (number_of_digits digits)))
  unfolding rules
  digits_stand false digits is few at =
      let here = token_here place digits kinds.Whole in
      let same = text_here line place digits rest kinds.Whole at in
      record {
        tokens = here ∷ [];
        cut = λ tokens cut. cut_here line place digits rest kinds.Whole at is (stops digits rest kinds.Whole is ends) tokens cut;
        derived = λ others. that (that (this nothing));
        shallow = λ others shallow. flat kinds.Whole 1 others refl (omega arith) shallow;
        written = written_values.Whole false here;
        spelled = refl;
        says = (subst (λ t. number_of_digits t ≤ 10 ^ 12) (sym same) few, ap (λ t. signed false (number_of_digits t)) (sym same));
      }
  digits_stand true digits is few at =
      let next : drop (place + 1) line ≡ digits ++ rest = after_here line place (codes "-") (digits ++ rest) at in
      let here = token_here (place + 1) digits kinds.Whole in
      let end : place + 1 + length digits ≡ place + length (codes "-" ++ digits) = omega arith in
      let same = text_here line (place + 1) digits rest kinds.Whole next in
      record {
        tokens = token_here place (codes "-") kinds.MinusSign ∷ here ∷ [];
        cut = λ tokens cut. cut_here line place (codes "-") (digits ++ rest) kinds.MinusSign at minus_kind (minus_stops (digits ++ rest)) _
            (cut_here line (place + 1) digits rest kinds.Whole next is (stops digits rest kinds.Whole is ends) tokens (subst (λ n. AreTokensFrom line n tokens) (sym end) cut));
        derived = λ others. that (this (this nothing));
        shallow = λ others shallow. flat kinds.MinusSign 1 (kinds.Whole ∷ others) refl (omega arith) (flat kinds.Whole 1 others refl (omega arith) shallow);
        written = written_values.Whole true here;
        spelled = refl;
        says = (subst (λ t. number_of_digits t ≤ 10 ^ 12) (sym same) few, ap (λ t. signed true (number_of_digits t)) (sym same));
      }

  whole_of : (field : List ℕ) (is_negative : Bool) (digits : Token) → AreToldOf field (value_lexemes (written_values.Whole is_negative digits)) → token_kind (token_text field digits) ≡ Some kinds.Whole
  whole_of field false digits all = all.0.0.kind ∙ ap (λ k. Some k) all.0.1
  whole_of field true digits all = all.1.0.0.kind ∙ ap (λ k. Some k) all.1.0.1

  spelled_kind : (field : List ℕ) (is_negative : Bool) (digits : Token) → SpellsNumber field is_negative digits → token_kind (token_text field digits) ≡ Some kinds.Whole
  spelled_kind field is_negative digits spells = whole_of field is_negative digits (subst (AreToldOf field) spells.spelled (told_of field spells.tokens (cut_inside field spells.cut)))

  number_stands : (scale : Scale) (field : List ℕ) (datum : Datum) (bytes : List ℕ) → PutsNumber scale field datum bytes → drop place line ≡ bytes ++ rest → ValueStands line place (place + length bytes) datum
  number_stands scale field datum bytes (inl puts) at =
      let digits = token_text field puts.1 in
      subst (λ d. ValueStands line place (place + length bytes) d) (sym puts.3)
      (subst (λ bs. ValueStands line place (place + length bs) (number (signed puts.0 (number_of_digits digits)))) (sym puts.4)
      (digits_stand puts.0 digits (spelled_kind field puts.0 puts.1 puts.2) puts.2.few (at ∙ ap (λ bs. bs ++ rest) puts.4)))
  number_stands scale field datum bytes (inr puts) at =
      let said = amount_said puts.1 puts.2.few in
      subst (λ d. ValueStands line place (place + length bytes) d) (ap (λ n. number (signed puts.0 n)) said ∙ sym puts.3)
      (subst (λ bs. ValueStands line place (place + length bs) (number (signed puts.0 (number_of_digits (decimal puts.1))))) (sym puts.4)
      (digits_stand puts.0 (decimal puts.1) (printed_amount puts.1 puts.2.few) (subst (λ n. n ≤ 10 ^ 12) (sym said) puts.2.few) (at ∙ ap (λ bs. bs ++ rest) puts.4)))

  pub value_stands : (type : ColumnType) (scale : Scale) (field : List ℕ) (datum : Datum) (bytes : List ℕ) → PutsDatum type scale field datum bytes → drop place line ≡ bytes ++ rest → ValueStands line place (place + length bytes) datum
  value_stands type scale [] datum bytes puts at = at_null datum bytes puts at
    where
      at_null : (datum : Datum) (bytes : List ℕ) → (datum ≡ null) × (bytes ≡ codes "NULL") → drop place line ≡ bytes ++ rest → ValueStands line place (place + length bytes) datum
      at_null datum bytes puts at =
          subst (λ d. ValueStands line place (place + length bytes) d) (sym puts.0)
          (subst (λ bs. ValueStands line place (place + length bs) null) (sym puts.1) (null_stands (at ∙ ap (λ bs. bs ++ rest) puts.1)))
  value_stands types.Int scale (byte ∷ field) datum bytes puts at = number_stands scale (content (byte ∷ field)) datum bytes puts at
  value_stands (types.Text most) scale (byte ∷ field) datum bytes puts at =
      subst (λ d. ValueStands line place (place + length bytes) d) (sym puts.0)
      (subst (λ bs. ValueStands line place (place + length bs) (text (content (byte ∷ field)))) (sym puts.1) (text_stands (content (byte ∷ field)) (at ∙ ap (λ bs. bs ++ rest) puts.1)))

-- ---- a row

pub joined_kinds : (a b : List Token) (others : List TokenKind) → kinds_of (a ++ b) ++ others ≡ kinds_of a ++ (kinds_of b ++ others)
joined_kinds a b others = ap (λ ks. ks ++ others) (map-append (λ token. token.kind) a b) ∙ append_assoc (kinds_of a) (kinds_of b) others

-- values with a comma before each, up to the bracket that closes the row
pub record FurtherStand (line : List ℕ) (first last : ℕ) (row : Row) : Type 0 where
  pub tokens : List Token
  pub cut : (rest : List Token) → AreTokensFrom line last rest → AreTokensFrom line first (tokens ++ rest)
  pub derived : (others : List TokenKind) → Derives (pick kinds.Comma (sub grammar.values done) done) (kinds_of tokens ++ others) others
  pub shallow : (others : List TokenKind) → is_shallow 1 others ≡ true → is_shallow 1 (kinds_of tokens ++ others) ≡ true
  pub written : List WrittenValue
  pub spelled : lexemes_of tokens ≡ further_lexemes kinds.Comma value_lexemes written
  pub says : SaysRow line written row

-- the values, up to the bracket that closes the row
pub record RowStands (line : List ℕ) (first last : ℕ) (row : Row) : Type 0 where
  pub tokens : List Token
  pub cut : (rest : List Token) → AreTokensFrom line last rest → AreTokensFrom line first (tokens ++ rest)
  pub derived : (others : List TokenKind) → Derives (rules grammar.values) (kinds_of tokens ++ others) others
  pub shallow : (others : List TokenKind) → is_shallow 1 others ≡ true → is_shallow 1 (kinds_of tokens ++ others) ≡ true
  pub written : List WrittenValue
  pub spelled : lexemes_of tokens ≡ list_lexemes kinds.Comma value_lexemes written
  pub says : SaysRow line written row

-- one value and what is after it
join : (line : List ℕ) (first middle last : ℕ) (datum : Datum) (row : Row) → ValueStands line first middle datum → FurtherStand line middle last row → RowStands line first last (datum ∷ row)
unfolding rules
join line first middle last datum row one more = record {
  tokens = one.tokens ++ more.tokens;
  cut = λ rest cut. subst (AreTokensFrom line first) (sym (append_assoc one.tokens more.tokens rest)) (one.cut (more.tokens ++ rest) (more.cut rest cut));
  derived = λ others. subst (λ ks. Derives (rules grammar.values) ks others) (sym (joined_kinds one.tokens more.tokens others)) (part (one.derived (kinds_of more.tokens ++ others)) (more.derived others));
  shallow = λ others shallow. subst (λ ks. is_shallow 1 ks ≡ true) (sym (joined_kinds one.tokens more.tokens others)) (one.shallow (kinds_of more.tokens ++ others) (more.shallow others shallow));
  written = one.written ∷ more.written;
  spelled = map-append lexeme_of one.tokens more.tokens ∙ ap (λ ls. ls ++ lexemes_of more.tokens) one.spelled ∙ ap (λ ls. value_lexemes one.written ++ ls) more.spelled;
  says = (one.says, more.says);
}

-- a comma, a blank and a row are further values
after_comma : (line : List ℕ) (first last : ℕ) (rest : List ℕ) (datum : Datum) (row : Row) → drop first line ≡ codes ", " ++ rest → RowStands line (first + 2) last (datum ∷ row) → FurtherStand line first last (datum ∷ row)
after_comma line first last rest datum row at stands = record {
  tokens = token_here first (codes ",") kinds.Comma ∷ stands.tokens;
  cut = λ tokens cut.
      let blank : drop (first + 1) line ≡ 32 ∷ rest = after_here line first (codes ",") (32 ∷ rest) at in
      let next : first + 1 + 1 ≡ first + 2 = omega arith in
      cut_here line first (codes ",") (32 ∷ rest) kinds.Comma at comma_kind (comma_stops (32 ∷ rest)) _
      (blank_here line (first + 1) rest _ blank (subst (λ n. AreTokensFrom line n (stands.tokens ++ tokens)) (sym next) (stands.cut tokens cut)));
  derived = λ others. this (part (stands.derived others) nothing);
  shallow = λ others shallow. flat kinds.Comma 1 (kinds_of stands.tokens ++ others) refl (omega arith) (stands.shallow others shallow);
  written = stands.written;
  spelled = ap (λ ls. mark kinds.Comma ∷ ls) stands.spelled ∙ commas stands.written (λ e. no_row line datum row (subst (λ w. SaysRow line w (datum ∷ row)) e stands.says));
  says = stands.says;
}
  where
    no_row : (line : List ℕ) (datum : Datum) (row : Row) → SaysRow line [] (datum ∷ row) → ⊥
    no_row line datum row says = says

    commas : (written : List WrittenValue) → (written ≡ [] → ⊥) → mark kinds.Comma ∷ list_lexemes kinds.Comma value_lexemes written ≡ further_lexemes kinds.Comma value_lexemes written
    commas [] none = absurd (none refl)
    commas (w ∷ ws) none = refl

module _ (line : List ℕ) (number_of : ℕ) (fields : List (List ℕ)) where
  -- after a value there is a comma, or the bracket
  further_ends : (columns : List Column) (row : Row) (others rest : List ℕ) → PutsFurther number_of fields columns row others → Ends (others ++ 41 ∷ rest)
  further_ends [] [] others rest puts = subst (λ bs. Ends (bs ++ 41 ∷ rest)) (sym puts) closing
  further_ends (column ∷ columns) (datum ∷ row) others rest puts = subst (λ bs. Ends (bs ++ 41 ∷ rest)) (sym puts.4) comma
  further_ends [] (datum ∷ row) others rest puts = elim puts [ ]
  further_ends (column ∷ columns) [] others rest puts = elim puts [ ]

  pub further_stand : (columns : List Column) (row : Row) (bytes : List ℕ) (place : ℕ) (rest : List ℕ) → PutsFurther number_of fields columns row bytes → drop place line ≡ bytes ++ (41 ∷ rest)
      → FurtherStand line place (place + length bytes) row
  further_stand [] [] bytes place rest puts at =
      let end : place + length bytes ≡ place = omega (arith, ap length puts) in
      record {
        tokens = [];
        cut = λ tokens cut. subst (λ n. AreTokensFrom line n tokens) end cut;
        derived = λ others. that nothing;
        shallow = λ others shallow. shallow;
        written = [];
        spelled = refl;
        says = tt;
      }
  further_stand (column ∷ columns) (datum ∷ row) bytes place rest puts at =
      let one = puts.0 in
      let others = puts.1 in
      let whole : drop place line ≡ codes ", " ++ (one ++ (others ++ 41 ∷ rest)) =
      at ∙ ap (λ bs. bs ++ (41 ∷ rest)) puts.4 ∙ append_assoc (codes ", " ++ one) others (41 ∷ rest) in
      let first : drop (place + 2) line ≡ one ++ (others ++ 41 ∷ rest) = after_here line place (codes ", ") (one ++ (others ++ 41 ∷ rest)) whole in
      let value = value_stands line (place + 2) (others ++ 41 ∷ rest) (further_ends columns row others rest puts.3) column.column_type column.scale puts.2.0 datum one puts.2.3 first in
      let more = further_stand columns row others (place + 2 + length one) rest puts.3 (after_here line (place + 2) one (others ++ 41 ∷ rest) first) in
      let end : place + 2 + length one + length others ≡ place + length bytes = omega (arith, ap length puts.4, length-append (codes ", " ++ one) others) in
      subst (λ n. FurtherStand line place n (datum ∷ row)) end
      (after_comma line place (place + 2 + length one + length others) (one ++ (others ++ 41 ∷ rest)) datum row whole (join line (place + 2) (place + 2 + length one) (place + 2 + length one + length others) datum row value more))
  further_stand [] (datum ∷ row) bytes place rest puts at = elim puts [ ]
  further_stand (column ∷ columns) [] bytes place rest puts at = elim puts [ ]

  pub row_stands : (columns : List Column) (row : Row) (bytes : List ℕ) (place : ℕ) (rest : List ℕ) → PutsRow number_of fields columns row bytes → drop place line ≡ bytes ++ (41 ∷ rest)
      → RowStands line place (place + length bytes) row
  row_stands (column ∷ columns) (datum ∷ row) bytes place rest puts at =
      let one = puts.0 in
      let others = puts.1 in
      let first : drop place line ≡ one ++ (others ++ 41 ∷ rest) = at ∙ ap (λ bs. bs ++ (41 ∷ rest)) puts.4 ∙ append_assoc one others (41 ∷ rest) in
      let value = value_stands line place (others ++ 41 ∷ rest) (further_ends columns row others rest puts.3) column.column_type column.scale puts.2.0 datum one puts.2.3 first in
      let more = further_stand columns row others (place + length one) rest puts.3 (after_here line place one (others ++ 41 ∷ rest) first) in
      let end : place + length one + length others ≡ place + length bytes = omega (arith, ap length puts.4, length-append one others) in
      subst (λ n. RowStands line place n (datum ∷ row)) end (join line place (place + length one) (place + length one + length others) datum row value more)
  row_stands [] row bytes place rest puts at = elim puts [ ]
  row_stands (column ∷ columns) [] bytes place rest puts at = elim puts [ ]
