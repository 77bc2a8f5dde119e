-- The line of a table.
use Rattle.std.proofs.Common.{◌≡◌, ◌∙◌, ℕ, true, List, [], ◌∷◌, ◌++◌, get_or, map, Some, refl, sym, ap, subst, arith, decimal, codes}
use Rattle.std.specs.Prelude.{if◌then◌else◌}
use Rattle.std.specs.List.{AllByRecursion, join_with_byte}
use Rattle.std.proofs.lemmas.Fmt.{digits_decimal, digits_value-decimal, decimal_nonempty}
use Rattle.rs_grammar.specs.declared.kind.TokenKind.TheVariants as kinds
use Rattle.rs_grammar.specs.Grammar as grammar
use Rattle.rs_grammar.specs.Grammar.{Derives, IsCommand, done, is_shallow, nothing, part, pick, rules, sub, that, this}
use Rattle.rs_lexer.specs.declared.token.Token.{Token}
use Rattle.rs_lexer.specs.Lexis.{reserved, token_kind, token_text, word_kind}
use Rattle.rs_measure.specs.FixedPoint.{number_of_digits}
use Rattle.rs_measure.proofs.FixedPoint.{numerals}
use Rattle.rs_value.specs.declared.column.Kind.{Kind}
use Rattle.rs_value.specs.declared.column.Kind.TheVariants.{Line, Point}
use Rattle.rs_value.specs.declared.column.ColumnType.{ColumnType}
use Rattle.rs_value.specs.declared.column.ColumnType.TheVariants as types
use Rattle.rs_syntax.specs.declared.written.WrittenColumn.{WrittenColumn}
use Rattle.rs_syntax.specs.declared.written.WrittenType.TheVariants as written_types
use Rattle.rs_syntax.specs.Sound.{AreColumns, IsColumnType, IsName}
use Rattle.rs_syntax.specs.Tree.{define_table}
use Rattle.rs_syntax.specs.Written.{SaysColumns, SaysType, column_lexemes, has_text, lexeme_of, lexemes_of, mark as marked, table_kind, told, written_table}
use Rattle.rs_machine.specs.Request.{Asks, command}
use Rattle.rs_machine_laws.specs.ViewLines.{IsReadable}
use Rattle.rs_csv_lines.proofs.Cuts.{blank, closing, token_here}
use Rattle.rs_csv_lines.proofs.Inserts.{kind_of_name}
use Rattle.rs_dump_laws.specs.Lines.{IsSaid, column_text, dump_line, kind_word}
use Rattle.rs_dump_lines.proofs.Defining.{define_kind, name_at_bracket, word_at_bracket}
use Rattle.rs_dump_lines.proofs.ListWords.{AreJoined, IsItem, closed, closed_cut, closed_derived, closed_said, closed_shallow, closed_spelled, closed_text}
use Rattle.rs_csv_lines.proofs.NumberTexts.{whole_token}
use Rattle.rs_dump_lines.proofs.Words.{AreCut, Word, asks_it, closing_bracket, end_at, ending, kinds_at, kinds_in, mark, next, none, opening_bracket, tokens_at, word, words_said, words_text}

int_kind : token_kind (codes "INT") ≡ Some kinds.Int
unfolding token_kind word_kind reserved
int_kind = refl

text_kind : token_kind (codes "TEXT") ≡ Some kinds.Text
unfolding token_kind word_kind reserved
text_kind = refl

line_kind : token_kind (codes "LINE") ≡ Some kinds.Line
unfolding token_kind word_kind reserved
line_kind = refl

point_kind : token_kind (codes "POINT") ≡ Some kinds.Point
unfolding token_kind word_kind reserved
point_kind = refl

table_word_kind : token_kind (codes "TABLE") ≡ Some kinds.Table
unfolding token_kind word_kind reserved
table_word_kind = refl

-- ---- columns

abbrev Column : Type 0
Column = List ℕ × ColumnType

abbrev type_words : ColumnType → List Word
type_words types.Int = word (codes "INT") kinds.Int ∷ []
type_words (types.Text most) = word (codes "TEXT") kinds.Text ∷ mark (codes "(") kinds.LeftParen ∷ mark (decimal most) kinds.Whole ∷ mark (codes ")") kinds.RightParen ∷ []

abbrev column_words : Column → List Word
column_words column = mark column.0 kinds.Name ∷ type_words column.1

abbrev SaysColumn : List ℕ → WrittenColumn → Column → Type 0
SaysColumn line written column = (column.0 ≡ token_text line written.name) × SaysType line written.column_type column.1

abbrev IsColumn : Column → Type 0
IsColumn = IsItem column_words column_lexemes grammar.column grammar.columns SaysColumn SaysColumns

-- TEXT ends at its bracket
text_at_bracket : {ws : List Word} {after : List ℕ} → AreCut (mark (codes "(") kinds.LeftParen ∷ ws) after → AreCut (word (codes "TEXT") kinds.Text ∷ mark (codes "(") kinds.LeftParen ∷ ws) after
text_at_bracket {ws} {after} more = next text_kind (word_at_bracket (codes "TEXT") (words_text ws ++ after) (refl, refl)) more

int_column : (name : List ℕ) → IsName name → IsColumn (name, types.Int)
unfolding rules
int_column name is = record {
  cut = λ after ends. ending (kind_of_name name is) blank (ending int_kind ends none);
  derived = λ others. this (this nothing);
  shallow = λ others shallow. shallow;
  said = λ line place have. record { written = record { name = token_here place name kinds.Name; column_type = written_types.Int }; spelled = refl; says = (sym have.0, tt) };
}

text_column : (name : List ℕ) (most : ℕ) → IsName name → IsColumnType (types.Text most) → IsColumn (name, types.Text most)
unfolding rules
text_column name most is sound =
    let low = sound.0 in
    let high = sound.1 in
    let digits = digits_decimal numerals most (omega arith) in
    let whole = whole_token (decimal most) digits (decimal_nonempty most (omega arith)) in
    let back : number_of_digits (decimal most) ≡ most = digits_value-decimal numerals most (omega arith) in
    record {
      cut = λ after ends. ending (kind_of_name name is) blank (text_at_bracket (opening_bracket (ending whole closing (closing_bracket none))));
      derived = λ others. this (that (this (this (this (this nothing)))));
      shallow = λ others shallow. shallow;
      said = λ line place have. record {
        written = record { name = token_here place name kinds.Name; column_type = written_types.Text (get_or (tokens_at place (column_words (name, types.Text most))) 3 (token_here 0 [] kinds.Name)) };
        spelled = refl;
        says = (sym have.0, (sym back ∙ ap number_of_digits (sym have.1.1.1.0), low, high));
      };
    }

is_column : (column : Column) → IsName column.0 → IsColumnType column.1 → IsColumn column
is_column (name, types.Int) is sound = int_column name is
is_column (name, types.Text most) is sound = text_column name most is sound

are_columns : (columns : List Column) → AreColumns columns → AllByRecursion IsColumn columns
are_columns [] are = tt
are_columns (column ∷ columns) are = (is_column column are.0 are.1, are_columns columns are.2)

columns_joined : AreJoined column_words column_lexemes grammar.column grammar.columns SaysColumn SaysColumns
unfolding rules
columns_joined = record {
  says_none = λ line. tt;
  says_more = λ line w x ws xs one more. (one.0, one.1, more);
  derives = λ tokens middle left one more. part one more;
}

column_text_is : (column : Column) → words_text (column_words column) ≡ column_text column
column_text_is (name, types.Int) = refl
column_text_is (name, types.Text most) = refl

texts_are : (columns : List Column) → map (λ column. words_text (column_words column)) columns ≡ map column_text columns
texts_are [] = refl
texts_are (column ∷ columns) = λ i. column_text_is column i ∷ texts_are columns i

-- ---- the line

kind_word_kind : (kind : Kind) → token_kind (kind_word kind) ≡ Some (table_kind kind)
kind_word_kind Line = line_kind
kind_word_kind Point = point_kind

kind_lexeme : (kind : Kind) (token : Token) → token.kind ≡ table_kind kind → lexeme_of token ≡ marked (table_kind kind)
kind_lexeme Line token is = ap (λ k. if has_text k then told k token else marked k) is
kind_lexeme Point token is = ap (λ k. if has_text k then told k token else marked k) is

module _ (kind : Kind) (name : List ℕ) (column : Column) (columns : List Column) where
  abbrev in_brackets : List Word
  in_brackets = closed column_words column_lexemes grammar.column grammar.columns SaysColumn SaysColumns column columns

  abbrev table_words : List Word
  table_words =
      word (codes "DEFINE") kinds.Define ∷ word (kind_word kind) (table_kind kind) ∷ word (codes "TABLE") kinds.Table ∷ word name kinds.Name
      ∷ mark (codes "(") kinds.LeftParen ∷ in_brackets

  abbrev table_line : List ℕ
  table_line = 48 ∷ words_text table_words

  table_text : dump_line (define_table kind name (column ∷ columns)) ≡ table_line
  table_text =
      ap (λ t. codes "0 DEFINE " ++ (kind_word kind ++ (codes " TABLE " ++ (name ++ (codes "(" ++ t)))))
      (ap (λ texts. join_with_byte 44 texts ++ codes ")") (sym (texts_are (column ∷ columns)))
      ∙ sym (closed_text column_words column_lexemes grammar.column grammar.columns SaysColumn SaysColumns column columns))

  module _ (is : IsName name) (are : AreColumns (column ∷ columns)) where
    first_is : IsColumn column
    first_is = is_column column are.0 are.1

    others_are : AllByRecursion IsColumn columns
    others_are = are_columns columns are.2

    table_cut : AreCut table_words []
    table_cut =
        ending define_kind blank (ending (kind_word_kind kind) blank (ending table_word_kind blank (name_at_bracket is (opening_bracket
        (closed_cut column_words column_lexemes grammar.column grammar.columns SaysColumn SaysColumns column columns first_is others_are)))))

    columns_derived : Derives (sub grammar.columns (grammar.need kinds.RightParen done)) (kinds_in in_brackets) []
    columns_derived = closed_derived column_words column_lexemes grammar.column grammar.columns SaysColumn SaysColumns columns_joined column columns first_is others_are

    table_command : IsCommand (kinds_in table_words)
    unfolding rules
    table_command = by kind
      where
        by : (k : Kind) → IsCommand (kinds.Define ∷ table_kind k ∷ kinds.Table ∷ kinds.Name ∷ kinds.LeftParen ∷ kinds_in in_brackets)
        by Line = this (that (that (that (that (that (this (this (this (this columns_derived)))))))))
        by Point = this (that (that (that (that (that (that (this (this (this (this columns_derived))))))))))

    table_shallow : is_shallow 0 (kinds_in table_words) ≡ true
    table_shallow = by kind
      where
        by : (k : Kind) → is_shallow 0 (kinds.Define ∷ table_kind k ∷ kinds.Table ∷ kinds.Name ∷ kinds.LeftParen ∷ kinds_in in_brackets) ≡ true
        by Line = closed_shallow column_words column_lexemes grammar.column grammar.columns SaysColumn SaysColumns columns_joined column columns first_is others_are
        by Point = closed_shallow column_words column_lexemes grammar.column grammar.columns SaysColumn SaysColumns columns_joined column columns first_is others_are

    pub table_asks : IsReadable (dump_line (define_table kind name (column ∷ columns))) → IsSaid (define_table kind name (column ∷ columns))
    table_asks readable =
        let line = table_line in
        let have = words_said line 1 table_words refl in
        let place = end_at 1 (word (codes "DEFINE") kinds.Define ∷ word (kind_word kind) (table_kind kind) ∷ word (codes "TABLE") kinds.Table ∷ word name kinds.Name ∷ mark (codes "(") kinds.LeftParen ∷ []) in
        let said = closed_said column_words column_lexemes grammar.column grammar.columns SaysColumn SaysColumns columns_joined line place column columns first_is others_are have.1.1.1.1.1 in
        subst (λ l. Asks l (command 0 (define_table kind name (column ∷ columns)))) (sym table_text)
        (asks_it table_words _ (written_table kind (nth 3) said.written) (define_table kind name (column ∷ columns)) refl table_cut
        (record {
          command = subst IsCommand (sym (kinds_at 1 table_words)) table_command;
          shallow = ap (is_shallow 0) (kinds_at 1 table_words) ∙ table_shallow;
          spelled = ap (λ l. marked kinds.Define ∷ l ∷ marked kinds.Table ∷ told kinds.Name (nth 3) ∷ marked kinds.LeftParen ∷ lexemes_of (tokens_at place in_brackets)) (kind_lexeme kind (nth 1) refl)
              ∙ ap (λ ls. marked kinds.Define ∷ marked (table_kind kind) ∷ marked kinds.Table ∷ told kinds.Name (nth 3) ∷ marked kinds.LeftParen ∷ ls)
              (closed_spelled column_words column_lexemes grammar.column grammar.columns SaysColumn SaysColumns columns_joined line place column columns said);
        })
        (column ∷ columns, said.says, ap (λ n. define_table kind n (column ∷ columns)) (sym have.1.1.1.0))
        (subst IsReadable table_text readable))
      where
        nth : ℕ → Token
        nth k = get_or (tokens_at 1 table_words) k (token_here 0 [] kinds.Name)
