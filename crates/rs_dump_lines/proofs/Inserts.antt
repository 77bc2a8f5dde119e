-- The line of a row.
use Rattle.std.proofs.Common.{◌≡◌, ◌∙◌, ℕ, suc, ◌+◌, ◌≤◌, ◌^◌, true, false, pos, negsuc, neg_ℤ, List, [], ◌∷◌, ◌++◌, get_or, map, Some, refl, sym, ap, subst, arith, append-nil, codes, decimal, eqb-true}
use Rattle.std.specs.Prelude.{◌==◌, if◌then◌else◌}
use Rattle.std.specs.List.{AllByRecursion, join_with_byte}
use Rattle.std.proofs.lemmas.Fmt.{digits_decimal, digits_value-decimal, decimal_nonempty}
use Rattle.rs_grammar.specs.declared.kind.TokenKind.{TokenKind}
use Rattle.rs_grammar.specs.declared.kind.TokenKind.TheVariants as kinds
use Rattle.rs_grammar.specs.Grammar as grammar
use Rattle.rs_grammar.specs.Grammar.{Derives, IsCommand, done, is_shallow, nothing, part, rules, sub, that, this}
use Rattle.rs_lexer.specs.declared.token.Token.{Token}
use Rattle.rs_lexer.specs.Lexis.{is_quoted_rest, token_kind, token_text}
use Rattle.rs_measure.specs.FixedPoint.{number_of_digits}
use Rattle.rs_measure.proofs.FixedPoint.{numerals}
use Rattle.rs_methods.specs.Position.{absolute}
use Rattle.rs_value.specs.Row.{Datum, Row, null, number, text}
use Rattle.rs_value.specs.Text.{datum_text, quotes_doubled}
use Rattle.rs_value.specs.Values.{AreValues, IsValue}
use Rattle.rs_syntax.specs.declared.written.WrittenLocation.TheVariants as written_locations
use Rattle.rs_syntax.specs.declared.written.WrittenPosition.TheVariants as written_positions
use Rattle.rs_syntax.specs.declared.written.WrittenValue.TheVariants as written_values
use Rattle.rs_syntax.specs.Sound.{IsMeasure, IsName}
use Rattle.rs_syntax.specs.Tree.{along, at_point, insert}
use Rattle.rs_syntax.specs.Written.{SaysDatum, SaysRow, mark as marked, told, unquoted, unquoted_rest, value_lexemes, written_insert}
use Rattle.rs_machine.specs.Request.{Asks, command}
use Rattle.rs_machine_laws.specs.ViewLines.{IsReadable}
use Rattle.rs_csv_lines.proofs.Cuts.{at_word_kind, blank, from_kind, insert_kind, into_kind, minus_kind, minus_stops, null_kind, on_kind, to_kind, token_here, values_kind}
use Rattle.rs_csv_lines.proofs.Inserts.{kind_of_name}
use Rattle.rs_csv_lines.proofs.Lexemes.{flat_told, told_piece}
use Rattle.rs_csv_lines.proofs.NumberTexts.{whole_token}
use Rattle.rs_dump_laws.specs.Lines.{IsSaid, dump_line, shortest_text}
use Rattle.rs_dump_lines.proofs.Alignments.{span_joined}
use Rattle.rs_dump_lines.proofs.Defining.{measure_derived, measure_has_text, measure_word, position_of, word_at_bracket}
use Rattle.rs_dump_lines.proofs.ListWords.{AreJoined, IsItem, closed, closed_cut, closed_derived, closed_said, closed_shallow, closed_spelled, closed_text}
use Rattle.rs_dump_lines.proofs.MeasureTexts.{measure_kind, measure_text_is}
use Rattle.rs_dump_lines.proofs.Words.{AreCut, Word, asks_it, end_at, ending, kinds_at, kinds_in, mark, next, none, opening_bracket, tokens_at, word, words_said, words_text}

-- ---- values

closes : (bytes : List ℕ) → is_quoted_rest false (quotes_doubled bytes ++ 39 ∷ []) ≡ true
closes [] = refl
closes (b ∷ bs) =
    elim (b == 39) as (λ v. (b == 39) ≡ v → is_quoted_rest false ((if v then codes "''" ++ quotes_doubled bs else b ∷ quotes_doubled bs) ++ 39 ∷ []) ≡ true)
    [ true ↦ λ e. closes bs | false ↦ λ e. ap (λ v. is_quoted_rest v (quotes_doubled bs ++ 39 ∷ [])) e ∙ closes bs ] refl

undoubled : (bytes : List ℕ) → unquoted_rest false (quotes_doubled bytes ++ 39 ∷ []) ≡ bytes
undoubled [] = refl
undoubled (b ∷ bs) =
    elim (b == 39) as (λ v. (b == 39) ≡ v → unquoted_rest false ((if v then codes "''" ++ quotes_doubled bs else b ∷ quotes_doubled bs) ++ 39 ∷ []) ≡ b ∷ bs) [
      | true ↦ λ e. ap (λ x. x ∷ unquoted_rest false (quotes_doubled bs ++ 39 ∷ [])) (sym (eqb-true b 39 e)) ∙ ap (λ xs. b ∷ xs) (undoubled bs)
      | false ↦ λ e. ap (λ v. if v then unquoted_rest true (quotes_doubled bs ++ 39 ∷ []) else b ∷ unquoted_rest false (quotes_doubled bs ++ 39 ∷ [])) e ∙ ap (λ xs. b ∷ xs) (undoubled bs)
    ] refl

quoted_kind : (bytes : List ℕ) → token_kind (datum_text (text bytes)) ≡ Some kinds.Quoted
unfolding token_kind
quoted_kind bytes = rw (closes bytes) refl

abbrev datum_words : Datum → List Word
datum_words null = mark (codes "NULL") kinds.Null ∷ []
datum_words (number (pos n)) = mark (decimal n) kinds.Whole ∷ []
datum_words (number (negsuc n)) = mark (codes "-") kinds.MinusSign ∷ mark (decimal (suc n)) kinds.Whole ∷ []
datum_words (text bytes) = mark (datum_text (text bytes)) kinds.Quoted ∷ []

abbrev IsDatumItem : Datum → Type 0
IsDatumItem = IsItem datum_words value_lexemes grammar.value grammar.values SaysDatum SaysRow

minus_sign : {ws : List Word} {after : List ℕ} → AreCut ws after → AreCut (mark (codes "-") kinds.MinusSign ∷ ws) after
minus_sign {ws} {after} more = next minus_kind (minus_stops (words_text ws ++ after)) more

decimal_kind : (n : ℕ) → n ≤ 10 ^ 12 → token_kind (decimal n) ≡ Some kinds.Whole
decimal_kind n few = whole_token (decimal n) (digits_decimal numerals n (omega arith)) (decimal_nonempty n (omega arith))

decimal_back : (n : ℕ) → n ≤ 10 ^ 12 → number_of_digits (decimal n) ≡ n
decimal_back n few = digits_value-decimal numerals n (omega arith)

null_item : IsDatumItem null
unfolding rules
null_item = record {
  cut = λ after ends. ending null_kind ends none;
  derived = λ others. this nothing;
  shallow = λ others shallow. shallow;
  said = λ line place have. record { written = written_values.Null; spelled = refl; says = tt };
}

whole_item : (n : ℕ) → n ≤ 10 ^ 12 → IsDatumItem (number (pos n))
unfolding rules
whole_item n few = record {
  cut = λ after ends. ending (decimal_kind n few) ends none;
  derived = λ others. that (that (this nothing));
  shallow = λ others shallow. shallow;
  said = λ line place have.
      let here = token_here place (decimal n) kinds.Whole in
      let back : number_of_digits (token_text line here) ≡ n = ap number_of_digits have.0 ∙ decimal_back n few in
      record { written = written_values.Whole false here; spelled = refl; says = (subst (λ m. m ≤ 10 ^ 12) (sym back) few, ap pos (sym back)) };
}

minus_item : (n : ℕ) → suc n ≤ 10 ^ 12 → IsDatumItem (number (negsuc n))
unfolding rules
minus_item n few = record {
  cut = λ after ends. minus_sign (ending (decimal_kind (suc n) few) ends none);
  derived = λ others. that (this (this nothing));
  shallow = λ others shallow. shallow;
  said = λ line place have.
      let here = token_here (place + 1) (decimal (suc n)) kinds.Whole in
      let back : number_of_digits (token_text line here) ≡ suc n = ap number_of_digits have.1.0 ∙ decimal_back (suc n) few in
      record { written = written_values.Whole true here; spelled = refl; says = (subst (λ m. m ≤ 10 ^ 12) (sym back) few, ap (λ m. neg_ℤ (pos m)) (sym back)) };
}

text_item : (bytes : List ℕ) → IsDatumItem (text bytes)
unfolding rules
text_item bytes = record {
  cut = λ after ends. ending (quoted_kind bytes) ends none;
  derived = λ others. that (that (that (this nothing)));
  shallow = λ others shallow. shallow;
  said = λ line place have.
      let here = token_here place (datum_text (text bytes)) kinds.Quoted in
      record { written = written_values.Quoted here; spelled = refl; says = sym (ap unquoted have.0 ∙ undoubled bytes) };
}

is_item : (datum : Datum) → IsValue datum → IsDatumItem datum
is_item null is = null_item
is_item (number (pos n)) is = whole_item n is
is_item (number (negsuc n)) is = minus_item n is
is_item (text bytes) is = text_item bytes

are_items : (row : Row) → AreValues row → AllByRecursion IsDatumItem row
are_items [] are = tt
are_items (datum ∷ row) are = (is_item datum are.0, are_items row are.1)

values_joined : AreJoined datum_words value_lexemes grammar.value grammar.values SaysDatum SaysRow
unfolding rules
values_joined = record {
  says_none = λ line. tt;
  says_more = λ line w x ws xs one more. (one, more);
  derives = λ tokens middle left one more. part one more;
}

datum_text_is : (datum : Datum) → datum_text datum ≡ words_text (datum_words datum)
datum_text_is null = refl
datum_text_is (number (pos n)) = sym (append-nil (decimal n))
datum_text_is (number (negsuc n)) = ap (λ t. 45 ∷ t) (sym (append-nil (decimal (suc n))))
datum_text_is (text bytes) = sym (append-nil (datum_text (text bytes)))

texts_are : (row : Row) → map datum_text row ≡ map (λ datum. words_text (datum_words datum)) row
texts_are [] = refl
texts_are (datum ∷ row) = λ i. datum_text_is datum i ∷ texts_are row i

-- ---- the line

-- VALUES ends at its bracket
values_at_bracket : {ws : List Word} {after : List ℕ} → AreCut (mark (codes "(") kinds.LeftParen ∷ ws) after → AreCut (word (codes "VALUES") kinds.Values ∷ mark (codes "(") kinds.LeftParen ∷ ws) after
values_at_bracket {ws} {after} more = next values_kind (word_at_bracket (codes "VALUES") (words_text ws ++ after) (refl, refl)) more

position_derived : (k : ℕ) (others : List TokenKind) → Derives (rules grammar.position) (measure_kind k ∷ others) others
unfolding rules
position_derived k others = that (part (measure_derived k others) (that nothing))

module _ (table route : List ℕ) (datum : Datum) (row : Row) where
  abbrev in_brackets : List Word
  in_brackets = closed datum_words value_lexemes grammar.value grammar.values SaysDatum SaysRow datum row

  abbrev after_place : List Word
  after_place = word (codes "VALUES") kinds.Values ∷ mark (codes "(") kinds.LeftParen ∷ in_brackets

  abbrev along_words : ℕ → ℕ → List Word
  along_words from to =
      word (codes "INSERT") kinds.Insert ∷ word (codes "INTO") kinds.Into ∷ word table kinds.Name ∷ word (codes "ON") kinds.On ∷ word route kinds.Name
      ∷ word (codes "FROM") kinds.From ∷ measure_word from ∷ word (codes "TO") kinds.To ∷ measure_word to ∷ after_place

  abbrev at_words : ℕ → List Word
  at_words measure =
      word (codes "INSERT") kinds.Insert ∷ word (codes "INTO") kinds.Into ∷ word table kinds.Name ∷ word (codes "ON") kinds.On ∷ word route kinds.Name
      ∷ word (codes "AT") kinds.At ∷ measure_word measure ∷ after_place

  values_text : codes " VALUES(" ++ (join_with_byte 44 (map datum_text (datum ∷ row)) ++ codes ")") ≡ words_text after_place
  values_text =
      ap (λ t. codes " VALUES(" ++ t)
      (ap (λ texts. join_with_byte 44 texts ++ codes ")") (texts_are (datum ∷ row))
      ∙ sym (closed_text datum_words value_lexemes grammar.value grammar.values SaysDatum SaysRow datum row))

  along_text : (from to : ℕ) → dump_line (insert table route (along (absolute from) (absolute to)) (datum ∷ row)) ≡ 48 ∷ words_text (along_words from to)
  along_text from to =
      ap (λ t. codes "0 INSERT INTO " ++ (table ++ (codes " ON " ++ (route ++ t))))
      (span_joined from to (codes " VALUES(" ++ (join_with_byte 44 (map datum_text (datum ∷ row)) ++ codes ")"))
      ∙ ap (λ t. codes " FROM " ++ (shortest_text from ++ (codes " TO " ++ (shortest_text to ++ t)))) values_text)

  at_text : (measure : ℕ) → dump_line (insert table route (at_point (absolute measure)) (datum ∷ row)) ≡ 48 ∷ words_text (at_words measure)
  at_text measure = ap (λ t. codes "0 INSERT INTO " ++ (table ++ (codes " ON " ++ (route ++ (codes " AT " ++ (shortest_text measure ++ t)))))) values_text

  module _ (named : IsName table) (on : IsName route) (are : AreValues (datum ∷ row)) where
    first_is : IsDatumItem datum
    first_is = is_item datum are.0

    others_are : AllByRecursion IsDatumItem row
    others_are = are_items row are.1

    values_cut : AreCut after_place []
    values_cut = values_at_bracket (opening_bracket (closed_cut datum_words value_lexemes grammar.value grammar.values SaysDatum SaysRow datum row first_is others_are))

    row_derived : Derives (sub grammar.values (grammar.need kinds.RightParen done)) (kinds_in in_brackets) []
    row_derived = closed_derived datum_words value_lexemes grammar.value grammar.values SaysDatum SaysRow values_joined datum row first_is others_are

    row_shallow : is_shallow 1 (kinds_in in_brackets) ≡ true
    row_shallow = closed_shallow datum_words value_lexemes grammar.value grammar.values SaysDatum SaysRow values_joined datum row first_is others_are

    -- ---- along a span

    module _ (from to : ℕ) (low : IsMeasure from) (high : IsMeasure to) where
      along_cut : AreCut (along_words from to) []
      along_cut =
          ending insert_kind blank (ending into_kind blank (ending (kind_of_name table named) blank (ending on_kind blank (ending (kind_of_name route on) blank
          (ending from_kind blank (ending (measure_text_is from low).token blank (ending to_kind blank (ending (measure_text_is to high).token blank values_cut))))))))

      along_command : IsCommand (kinds_in (along_words from to))
      unfolding rules
      along_command =
          that (that (that (this (this (this (this (this (part (this (part (position_derived from (kinds.To ∷ measure_kind to ∷ kinds_in after_place)) (this (part (position_derived to (kinds_in after_place)) nothing))))
          (this (this row_derived))))))))))

      along_shallow : is_shallow 0 (kinds_in (along_words from to)) ≡ true
      along_shallow =
          flat_told (measure_kind from) 0 (kinds.To ∷ measure_kind to ∷ kinds_in after_place) (measure_has_text from) (omega arith)
          (flat_told (measure_kind to) 0 (kinds_in after_place) (measure_has_text to) (omega arith) row_shallow)

      pub along_asks : IsReadable (dump_line (insert table route (along (absolute from) (absolute to)) (datum ∷ row))) → IsSaid (insert table route (along (absolute from) (absolute to)) (datum ∷ row))
      along_asks readable =
          let line : List ℕ = 48 ∷ words_text (along_words from to) in
          let tree = insert table route (along (absolute from) (absolute to)) (datum ∷ row) in
          let have = words_said line 1 (along_words from to) refl in
          let place = start in
          let said = closed_said datum_words value_lexemes grammar.value grammar.values SaysDatum SaysRow values_joined line place datum row first_is others_are have.1.1.1.1.1.1.1.1.1.1.1 in
          subst (λ l. Asks l (command 0 tree)) (sym (along_text from to))
          (asks_it (along_words from to) _ (written_insert (nth 2) (nth 4) (written_locations.Along (written_positions.Measure (nth 6)) (written_positions.Measure (nth 8))) said.written) tree refl along_cut
          (record {
            command = subst IsCommand (sym (kinds_at 1 (along_words from to))) along_command;
            shallow = ap (is_shallow 0) (kinds_at 1 (along_words from to)) ∙ along_shallow;
            spelled = λ i.
                marked kinds.Insert ∷ marked kinds.Into ∷ told kinds.Name (nth 2) ∷ marked kinds.On ∷ told kinds.Name (nth 4)
                ∷ marked kinds.From ∷ told_piece (nth 6) (measure_has_text from) i ∷ marked kinds.To ∷ told_piece (nth 8) (measure_has_text to) i
                ∷ marked kinds.Values ∷ marked kinds.LeftParen ∷ closed_spelled datum_words value_lexemes grammar.value grammar.values SaysDatum SaysRow values_joined line place datum row said i;
          }) (
            along (absolute from) (absolute to),
            datum ∷ row,
            (position_of line (nth 6) from low have.1.1.1.1.1.1.0, position_of line (nth 8) to high have.1.1.1.1.1.1.1.1.0),
            said.says,
            λ i. insert (sym have.1.1.0 i) (sym have.1.1.1.1.0 i) (along (absolute from) (absolute to)) (datum ∷ row),
          )
          (subst IsReadable (along_text from to) readable))
        where
          nth : ℕ → Token
          nth k = get_or (tokens_at 1 (along_words from to)) k (token_here 0 [] kinds.Name)

          start : ℕ
          start = end_at 1 (word (codes "INSERT") kinds.Insert ∷ word (codes "INTO") kinds.Into ∷ word table kinds.Name ∷ word (codes "ON") kinds.On ∷ word route kinds.Name
              ∷ word (codes "FROM") kinds.From ∷ measure_word from ∷ word (codes "TO") kinds.To ∷ measure_word to ∷ word (codes "VALUES") kinds.Values ∷ mark (codes "(") kinds.LeftParen ∷ [])

    -- ---- at a place

    module _ (measure : ℕ) (few : IsMeasure measure) where
      at_cut : AreCut (at_words measure) []
      at_cut =
          ending insert_kind blank (ending into_kind blank (ending (kind_of_name table named) blank (ending on_kind blank (ending (kind_of_name route on) blank
          (ending at_word_kind blank (ending (measure_text_is measure few).token blank values_cut))))))

      at_command : IsCommand (kinds_in (at_words measure))
      unfolding rules
      at_command =
          that (that (that (this (this (this (this (this (part (that (this (part (position_derived measure (kinds_in after_place)) nothing)))
          (this (this row_derived))))))))))

      at_shallow : is_shallow 0 (kinds_in (at_words measure)) ≡ true
      at_shallow = flat_told (measure_kind measure) 0 (kinds_in after_place) (measure_has_text measure) (omega arith) row_shallow

      pub at_asks : IsReadable (dump_line (insert table route (at_point (absolute measure)) (datum ∷ row))) → IsSaid (insert table route (at_point (absolute measure)) (datum ∷ row))
      at_asks readable =
          let line : List ℕ = 48 ∷ words_text (at_words measure) in
          let tree = insert table route (at_point (absolute measure)) (datum ∷ row) in
          let have = words_said line 1 (at_words measure) refl in
          let place = start in
          let said = closed_said datum_words value_lexemes grammar.value grammar.values SaysDatum SaysRow values_joined line place datum row first_is others_are have.1.1.1.1.1.1.1.1.1 in
          subst (λ l. Asks l (command 0 tree)) (sym (at_text measure))
          (asks_it (at_words measure) _ (written_insert (nth 2) (nth 4) (written_locations.At (written_positions.Measure (nth 6))) said.written) tree refl at_cut
          (record {
            command = subst IsCommand (sym (kinds_at 1 (at_words measure))) at_command;
            shallow = ap (is_shallow 0) (kinds_at 1 (at_words measure)) ∙ at_shallow;
            spelled = λ i.
                marked kinds.Insert ∷ marked kinds.Into ∷ told kinds.Name (nth 2) ∷ marked kinds.On ∷ told kinds.Name (nth 4)
                ∷ marked kinds.At ∷ told_piece (nth 6) (measure_has_text measure) i
                ∷ marked kinds.Values ∷ marked kinds.LeftParen ∷ closed_spelled datum_words value_lexemes grammar.value grammar.values SaysDatum SaysRow values_joined line place datum row said i;
          }) (
            at_point (absolute measure),
            datum ∷ row,
            position_of line (nth 6) measure few have.1.1.1.1.1.1.0,
            said.says,
            λ i. insert (sym have.1.1.0 i) (sym have.1.1.1.1.0 i) (at_point (absolute measure)) (datum ∷ row),
          )
          (subst IsReadable (at_text measure) readable))
        where
          nth : ℕ → Token
          nth k = get_or (tokens_at 1 (at_words measure)) k (token_here 0 [] kinds.Name)

          start : ℕ
          start = end_at 1 (word (codes "INSERT") kinds.Insert ∷ word (codes "INTO") kinds.Into ∷ word table kinds.Name ∷ word (codes "ON") kinds.On ∷ word route kinds.Name
              ∷ word (codes "AT") kinds.At ∷ measure_word measure ∷ word (codes "VALUES") kinds.Values ∷ mark (codes "(") kinds.LeftParen ∷ [])
