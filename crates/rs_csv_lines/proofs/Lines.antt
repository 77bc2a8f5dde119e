-- The line of an INSERT says it.
use Rattle.std.proofs.Common.{◌≡◌, ◌∙◌, ℕ, ◌+◌, true, inl, inr, List, [], ◌∷◌, ◌++◌, length, drop, Some, Ok, refl, sym, ap, subst, append_assoc, length-append, length-drop, arith}
use Rattle.std.specs.Prelude.{codes}
use Rattle.std.proofs.Math.Seq.{drop-append_seam}
use Rattle.std.proofs.lemmas.List.{map-append}
use Rattle.rs_grammar.specs.declared.kind.TokenKind.{TokenKind}
use Rattle.rs_grammar.specs.declared.kind.TokenKind.TheVariants as kinds
use Rattle.rs_grammar.specs.Grammar as grammar
use Rattle.rs_grammar.specs.Grammar.{rules, Derives, nothing, this, that, part, is_shallow, IsCommand}
use Rattle.rs_lexer.specs.declared.token.Token.{Token}
use Rattle.rs_lexer.specs.Lexis.{kinds_of, token_kind, token_text, AreTokensFrom, at_end}
use Rattle.rs_methods.specs.Position.{PositionExpression, absolute, relative_of}
use Rattle.rs_value.specs.Row.{Row}
use Rattle.rs_syntax.specs.declared.written.WrittenLocation.{WrittenLocation}
use Rattle.rs_syntax.specs.declared.written.WrittenLocation.TheVariants as written_locations
use Rattle.rs_syntax.specs.Tree.{EventLocationTree, along, at_point, insert}
use Rattle.rs_syntax.specs.Written.{mark, told, lexemes_of, lexeme_of, position_lexemes, location_lexemes, SaysLocation, spelling, written_insert}
use Rattle.rs_syntax.specs.Verdict.{Reads, has_tokens, is_command}
use Rattle.rs_csv_lines.specs.declared.plan.Measures.{Measures}
use Rattle.rs_csv_lines.specs.declared.plan.Column.{Column}
use Rattle.rs_csv_lines.specs.declared.plan.Place.{Place}
use Rattle.rs_csv_lines.specs.declared.plan.Place.TheVariants as places
use Rattle.rs_csv_lines.specs.Fields.{content}
use Rattle.rs_csv_lines.specs.Texts.{session_text, PutsPosition}
use Rattle.rs_csv_lines.proofs.Stations.{measure_in_range}
use Rattle.rs_csv_lines.specs.Inserts.{PutsPositionAt, PutsPlace, PutsRow, insert_line}
use Rattle.rs_csv_lines.proofs.Cuts.{Ends, token_here, after_here, cut_here, blank_here, word_here, after_word, word_text, insert_kind, into_kind, on_kind, from_kind, to_kind, at_word_kind, values_kind, opening_kind, opening_stops, closing_kind, closing_stops, blank}
use Rattle.rs_csv_lines.proofs.Lexemes.{flat}
use Rattle.rs_csv_lines.proofs.Positions.{PositionStands, beside_named, beside_text_stands, measure_text_stands, position_stands}
use Rattle.rs_csv_lines.proofs.Values.{joined_kinds, RowStands, row_stands}

-- from FROM or AT on, up to VALUES
pub record LocationStands (line : List ℕ) (first last : ℕ) (location : EventLocationTree) : Type 0 where
  pub tokens : List Token
  pub cut : (rest : List Token) → AreTokensFrom line last rest → AreTokensFrom line first (tokens ++ rest)
  pub derived : (others : List TokenKind) → Derives (rules grammar.place) (kinds_of tokens ++ others) others
  pub shallow : (others : List TokenKind) → is_shallow 0 others ≡ true → is_shallow 0 (kinds_of tokens ++ others) ≡ true
  pub written : WrittenLocation
  pub spelled : lexemes_of tokens ≡ location_lexemes written
  pub says : SaysLocation line written location

module _ (line : List ℕ) (reading : Measures) (fields : List (List ℕ)) where
  position_put : (i : ℕ) (position : PositionExpression) (bytes : List ℕ) (place : ℕ) (rest : List ℕ) → Ends rest → PutsPositionAt reading fields i position bytes → drop place line ≡ bytes ++ rest
      → PositionStands line place (place + length bytes) position
  position_put i position bytes place rest ends puts at = at_field (content puts.0) puts.3
    where
      at_field : (field : List ℕ) → PutsPosition reading field position bytes → PositionStands line place (place + length bytes) position
      at_field field (inl put) =
          subst (λ bs. PositionStands line place (place + length bs) position) (sym put.2) (position_stands line place field rest ends put.0 position put.1 (at ∙ ap (λ bs. bs ++ rest) put.2))
      at_field field (inr (inl put)) =
          subst (λ p. PositionStands line place (place + length bytes) p) (sym put.2)
          (subst (λ bs. PositionStands line place (place + length bs) (absolute put.0)) (sym put.3) (measure_text_stands line place rest ends put.0 (measure_in_range reading field put.0 put.1) (at ∙ ap (λ bs. bs ++ rest) put.3)))
      at_field field (inr (inr put)) =
          subst (λ p. PositionStands line place (place + length bytes) p) (sym put.4)
          (subst (λ bs. PositionStands line place (place + length bs) (relative_of put.0 put.1 put.2)) (sym put.5)
          (beside_text_stands line place rest ends put.0 put.1 put.2 (beside_named reading.rounds field put.0 put.1 put.2 put.3) put.3.written.0.in_range (at ∙ ap (λ bs. bs ++ rest) put.5)))

  at_stands : (at : ℕ) (position : PositionExpression) (bytes : List ℕ) (place : ℕ) (rest : List ℕ) → PutsPlace reading fields (places.At at) (at_point position) bytes → drop place line ≡ bytes ++ (32 ∷ rest)
      → LocationStands line place (place + length bytes) (at_point position)
  unfolding rules
  at_stands i position bytes place rest puts at =
      let one = puts.0 in
      let whole : drop place line ≡ 32 ∷ (codes "AT" ++ (32 ∷ (one ++ 32 ∷ rest))) = at ∙ ap (λ bs. bs ++ (32 ∷ rest)) puts.2 in
      let second : drop (place + 1 + 2) line ≡ 32 ∷ (one ++ 32 ∷ rest) = after_word line place (codes "AT") (32 ∷ (one ++ 32 ∷ rest)) whole in
      let third : drop (place + 1 + 2 + 1) line ≡ one ++ 32 ∷ rest = after_here line (place + 1 + 2) (codes " ") (one ++ 32 ∷ rest) second in
      let said = position_put i position one (place + 1 + 2 + 1) (32 ∷ rest) blank puts.1 third in
      let end : place + 1 + 2 + 1 + length one ≡ place + length bytes = omega (arith, ap length puts.2, length-append (codes " AT ") one) in
      record {
        tokens = token_here (place + 1) (codes "AT") kinds.At ∷ said.tokens;
        cut = λ tokens cut.
            word_here line place (codes "AT") (32 ∷ (one ++ 32 ∷ rest)) kinds.At whole at_word_kind blank (said.tokens ++ tokens)
            (blank_here line (place + 1 + 2) (one ++ 32 ∷ rest) (said.tokens ++ tokens) second (said.cut tokens (subst (λ n. AreTokensFrom line n tokens) (sym end) cut)));
        derived = λ others. that (this (part (said.derived others) nothing));
        shallow = λ others shallow. flat kinds.At 0 (kinds_of said.tokens ++ others) refl (omega arith) (said.shallow others shallow);
        written = written_locations.At said.written;
        spelled = ap (λ ls. mark kinds.At ∷ ls) said.spelled;
        says = said.says;
      }

  along_stands : (from to : ℕ) (first second : PositionExpression) (bytes : List ℕ) (place : ℕ) (rest : List ℕ) → PutsPlace reading fields (places.Along from to) (along first second) bytes
      → drop place line ≡ bytes ++ (32 ∷ rest) → LocationStands line place (place + length bytes) (along first second)
  unfolding rules
  along_stands i j first second bytes place rest puts at =
      let one = puts.0 in
      let other = puts.1 in
      let whole : drop place line ≡ 32 ∷ (codes "FROM" ++ (32 ∷ (one ++ 32 ∷ (codes "TO" ++ (32 ∷ (other ++ 32 ∷ rest)))))) =
      at ∙ ap (λ bs. bs ++ (32 ∷ rest)) puts.4 ∙ append_assoc (codes " FROM " ++ one ++ codes " TO ") other (32 ∷ rest) ∙ append_assoc (codes " FROM " ++ one) (codes " TO ") (other ++ 32 ∷ rest)
      ∙ append_assoc (codes " FROM ") one (codes " TO " ++ (other ++ 32 ∷ rest)) in
      let after_from : List ℕ = one ++ 32 ∷ (codes "TO" ++ (32 ∷ (other ++ 32 ∷ rest))) in
      let p2 : drop (place + 1 + 4) line ≡ 32 ∷ after_from = after_word line place (codes "FROM") (32 ∷ after_from) whole in
      let p3 : drop (place + 1 + 4 + 1) line ≡ after_from = after_here line (place + 1 + 4) (codes " ") after_from p2 in
      let said = position_put i first one (place + 1 + 4 + 1) (32 ∷ (codes "TO" ++ (32 ∷ (other ++ 32 ∷ rest)))) blank puts.2 p3 in
      let middle = place + 1 + 4 + 1 + length one in
      let p4 : drop middle line ≡ 32 ∷ (codes "TO" ++ (32 ∷ (other ++ 32 ∷ rest))) = after_here line (place + 1 + 4 + 1) one (32 ∷ (codes "TO" ++ (32 ∷ (other ++ 32 ∷ rest)))) p3 in
      let p5 : drop (middle + 1 + 2) line ≡ 32 ∷ (other ++ 32 ∷ rest) = after_word line middle (codes "TO") (32 ∷ (other ++ 32 ∷ rest)) p4 in
      let p6 : drop (middle + 1 + 2 + 1) line ≡ other ++ 32 ∷ rest = after_here line (middle + 1 + 2) (codes " ") (other ++ 32 ∷ rest) p5 in
      let last_said = position_put j second other (middle + 1 + 2 + 1) (32 ∷ rest) blank puts.3 p6 in
      let end : middle + 1 + 2 + 1 + length other ≡ place + length bytes =
      omega (arith, ap length puts.4, length-append (codes " FROM " ++ one ++ codes " TO ") other, length-append (codes " FROM " ++ one) (codes " TO "), length-append (codes " FROM ") one) in
      let to_token = token_here (middle + 1) (codes "TO") kinds.To in
      record {
        tokens = token_here (place + 1) (codes "FROM") kinds.From ∷ (said.tokens ++ to_token ∷ last_said.tokens);
        cut = λ tokens cut.
            let rest_cut = word_here line middle (codes "TO") (32 ∷ (other ++ 32 ∷ rest)) kinds.To p4 to_kind blank (last_said.tokens ++ tokens)
            (blank_here line (middle + 1 + 2) (other ++ 32 ∷ rest) (last_said.tokens ++ tokens) p5 (last_said.cut tokens (subst (λ n. AreTokensFrom line n tokens) (sym end) cut))) in
            subst (λ ts. AreTokensFrom line place (token_here (place + 1) (codes "FROM") kinds.From ∷ ts)) (sym (append_assoc said.tokens (to_token ∷ last_said.tokens) tokens))
            (word_here line place (codes "FROM") (32 ∷ after_from) kinds.From whole from_kind blank (said.tokens ++ (to_token ∷ (last_said.tokens ++ tokens)))
            (blank_here line (place + 1 + 4) after_from (said.tokens ++ (to_token ∷ (last_said.tokens ++ tokens))) p2 (said.cut (to_token ∷ (last_said.tokens ++ tokens)) rest_cut)));
        derived = λ others.
            subst (λ ks. Derives (rules grammar.place) (kinds.From ∷ ks) others) (sym (joined_kinds said.tokens (to_token ∷ last_said.tokens) others))
            (this (part (said.derived (kinds.To ∷ (kinds_of last_said.tokens ++ others))) (this (part (last_said.derived others) nothing))));
        shallow = λ others shallow.
            subst (λ ks. is_shallow 0 (kinds.From ∷ ks) ≡ true) (sym (joined_kinds said.tokens (to_token ∷ last_said.tokens) others))
            (flat kinds.From 0 (kinds_of said.tokens ++ (kinds.To ∷ (kinds_of last_said.tokens ++ others))) refl (omega arith)
            (said.shallow (kinds.To ∷ (kinds_of last_said.tokens ++ others)) (flat kinds.To 0 (kinds_of last_said.tokens ++ others) refl (omega arith) (last_said.shallow others shallow))));
        written = written_locations.Along said.written last_said.written;
        spelled =
            ap (λ ls. mark kinds.From ∷ ls) (map-append lexeme_of said.tokens (to_token ∷ last_said.tokens)
            ∙ ap (λ ls. ls ++ (mark kinds.To ∷ lexemes_of last_said.tokens)) said.spelled
            ∙ ap (λ ls. position_lexemes said.written ++ (mark kinds.To ∷ ls)) last_said.spelled);
        says = (said.says, last_said.says);
      }

  pub location_stands : (plan : Place) (location : EventLocationTree) (bytes : List ℕ) (place : ℕ) (rest : List ℕ) → PutsPlace reading fields plan location bytes → drop place line ≡ bytes ++ (32 ∷ rest)
      → LocationStands line place (place + length bytes) location
  location_stands (places.Along from to) (along first second) bytes place rest puts at = along_stands from to first second bytes place rest puts at
  location_stands (places.At at_field) (at_point position) bytes place rest puts at = at_stands at_field position bytes place rest puts at
  location_stands (places.Along from to) (at_point position) bytes place rest puts at = elim puts [ ]
  location_stands (places.At at_field) (along first second) bytes place rest puts at = elim puts [ ]

-- ---- the whole line

-- the place text begins with a blank
place_ends : (reading : Measures) (fields : List (List ℕ)) (plan : Place) (location : EventLocationTree) (bytes rest : List ℕ) → PutsPlace reading fields plan location bytes → Ends (bytes ++ rest)
place_ends reading fields (places.Along from to) (along first second) bytes rest puts = subst (λ bs. Ends (bs ++ rest)) (sym puts.4) blank
place_ends reading fields (places.At at_field) (at_point position) bytes rest puts = subst (λ bs. Ends (bs ++ rest)) (sym puts.2) blank
place_ends reading fields (places.Along from to) (at_point position) bytes rest puts = elim puts [ ]
place_ends reading fields (places.At at_field) (along first second) bytes rest puts = elim puts [ ]

module _ (session : ℕ) (table route : List ℕ) (place_bytes values : List ℕ) (reading : Measures) (number_of : ℕ) (fields : List (List ℕ)) (plan : Place) (location : EventLocationTree) (columns : List Column) (row : Row)
    (table_is : token_kind table ≡ Some kinds.Name) (route_is : token_kind route ≡ Some kinds.Name) (puts_place : PutsPlace reading fields plan location place_bytes) (puts_row : PutsRow number_of fields columns row values) where
  abbrev line : List ℕ
  line = insert_line session table route place_bytes values

  abbrev after_place : List ℕ
  after_place = codes " VALUES (" ++ (values ++ codes ")")

  abbrev after_route : List ℕ
  after_route = place_bytes ++ after_place

  abbrev after_table : List ℕ
  after_table = codes " ON " ++ (route ++ after_route)

  abbrev start : ℕ
  start = length (session_text session)

  p0 : drop start line ≡ 32 ∷ (codes "INSERT" ++ (32 ∷ (codes "INTO" ++ (32 ∷ (table ++ after_table)))))
  p0 = drop-append_seam (session_text session) (codes " INSERT INTO " ++ (table ++ after_table))

  p1 : drop (start + 1 + 6) line ≡ 32 ∷ (codes "INTO" ++ (32 ∷ (table ++ after_table)))
  p1 = after_word line start (codes "INSERT") (32 ∷ (codes "INTO" ++ (32 ∷ (table ++ after_table)))) p0

  p2 : drop (start + 1 + 6 + 1 + 4) line ≡ 32 ∷ (table ++ after_table)
  p2 = after_word line (start + 1 + 6) (codes "INTO") (32 ∷ (table ++ after_table)) p1

  abbrev behind_table : ℕ
  behind_table = start + 1 + 6 + 1 + 4 + 1 + length table

  p3 : drop behind_table line ≡ 32 ∷ (codes "ON" ++ (32 ∷ (route ++ after_route)))
  p3 = after_word line (start + 1 + 6 + 1 + 4) table after_table p2

  p4 : drop (behind_table + 1 + 2) line ≡ 32 ∷ (route ++ after_route)
  p4 = after_word line behind_table (codes "ON") (32 ∷ (route ++ after_route)) p3

  abbrev behind_route : ℕ
  behind_route = behind_table + 1 + 2 + 1 + length route

  p5 : drop behind_route line ≡ place_bytes ++ (32 ∷ (codes "VALUES" ++ (32 ∷ (40 ∷ (values ++ codes ")")))))
  p5 = after_word line (behind_table + 1 + 2) route after_route p4

  where_stands : LocationStands line behind_route (behind_route + length place_bytes) location
  where_stands = location_stands line reading fields plan location place_bytes behind_route (codes "VALUES" ++ (32 ∷ (40 ∷ (values ++ codes ")")))) puts_place p5

  abbrev behind_place : ℕ
  behind_place = behind_route + length place_bytes

  p6 : drop behind_place line ≡ 32 ∷ (codes "VALUES" ++ (32 ∷ (40 ∷ (values ++ codes ")"))))
  p6 = after_here line behind_route place_bytes (32 ∷ (codes "VALUES" ++ (32 ∷ (40 ∷ (values ++ codes ")"))))) p5

  p7 : drop (behind_place + 1 + 6) line ≡ 32 ∷ (40 ∷ (values ++ codes ")"))
  p7 = after_word line behind_place (codes "VALUES") (32 ∷ (40 ∷ (values ++ codes ")"))) p6

  p8 : drop (behind_place + 1 + 6 + 1) line ≡ codes "(" ++ (values ++ codes ")")
  p8 = after_here line (behind_place + 1 + 6) (codes " ") (40 ∷ (values ++ codes ")")) p7

  abbrev first_value : ℕ
  first_value = behind_place + 1 + 6 + 1 + 1

  p9 : drop first_value line ≡ values ++ (41 ∷ [])
  p9 = after_here line (behind_place + 1 + 6 + 1) (codes "(") (values ++ codes ")") p8

  what_stands : RowStands line first_value (first_value + length values) row
  what_stands = row_stands line number_of fields columns row values first_value [] puts_row p9

  p10 : drop (first_value + length values) line ≡ codes ")" ++ []
  p10 = after_here line first_value values (41 ∷ []) p9

  abbrev closing_token : Token
  closing_token = token_here (first_value + length values) (codes ")") kinds.RightParen

  abbrev back : List Token
  back = token_here (behind_place + 1) (codes "VALUES") kinds.Values ∷ token_here (behind_place + 1 + 6 + 1) (codes "(") kinds.LeftParen ∷ (what_stands.tokens ++ closing_token ∷ [])

  abbrev table_token : Token
  table_token = token_here (start + 1 + 6 + 1 + 4 + 1) table kinds.Name

  abbrev route_token : Token
  route_token = token_here (behind_table + 1 + 2 + 1) route kinds.Name

  abbrev tokens_of : List Token
  tokens_of = token_here (start + 1) (codes "INSERT") kinds.Insert ∷ token_here (start + 1 + 6 + 1) (codes "INTO") kinds.Into ∷ table_token
      ∷ token_here (behind_table + 1) (codes "ON") kinds.On ∷ route_token ∷ (where_stands.tokens ++ back)

  back_cut : AreTokensFrom line behind_place back
  back_cut =
      let closed : AreTokensFrom line (first_value + length values) (closing_token ∷ []) =
      cut_here line (first_value + length values) (codes ")") [] kinds.RightParen p10 closing_kind (closing_stops []) [] (at_end (omega (arith, length-drop (first_value + length values) line, ap length p10))) in
      word_here line behind_place (codes "VALUES") (32 ∷ (40 ∷ (values ++ codes ")"))) kinds.Values p6 values_kind blank _
      (blank_here line (behind_place + 1 + 6) (40 ∷ (values ++ codes ")")) _ p7
      (cut_here line (behind_place + 1 + 6 + 1) (codes "(") (values ++ codes ")") kinds.LeftParen p8 opening_kind (opening_stops (values ++ codes ")")) _
      (what_stands.cut (closing_token ∷ []) closed)))

  line_cut : AreTokensFrom line start tokens_of
  line_cut =
      word_here line start (codes "INSERT") (32 ∷ (codes "INTO" ++ (32 ∷ (table ++ after_table)))) kinds.Insert p0 insert_kind blank _
      (word_here line (start + 1 + 6) (codes "INTO") (32 ∷ (table ++ after_table)) kinds.Into p1 into_kind blank _
      (word_here line (start + 1 + 6 + 1 + 4) table after_table kinds.Name p2 table_is blank _
      (word_here line behind_table (codes "ON") (32 ∷ (route ++ after_route)) kinds.On p3 on_kind blank _
      (word_here line (behind_table + 1 + 2) route after_route kinds.Name p4 route_is (place_ends reading fields plan location place_bytes after_place puts_place) _
      (where_stands.cut back back_cut)))))

  back_kinds : List TokenKind
  back_kinds = kinds.Values ∷ kinds.LeftParen ∷ (kinds_of what_stands.tokens ++ kinds.RightParen ∷ [])

  kinds_are : kinds_of tokens_of ≡ kinds.Insert ∷ kinds.Into ∷ kinds.Name ∷ kinds.On ∷ kinds.Name ∷ (kinds_of where_stands.tokens ++ (kinds.Values ∷ kinds.LeftParen ∷ (kinds_of what_stands.tokens ++ kinds.RightParen ∷ [])))
  kinds_are =
      ap (λ ks. kinds.Insert ∷ kinds.Into ∷ kinds.Name ∷ kinds.On ∷ kinds.Name ∷ ks)
      (map-append (λ token. token.kind) where_stands.tokens back
      ∙ ap (λ ks. kinds_of where_stands.tokens ++ (kinds.Values ∷ kinds.LeftParen ∷ ks)) (map-append (λ token. token.kind) what_stands.tokens (closing_token ∷ [])))

  is_insert : IsCommand (kinds_of tokens_of)
  unfolding rules
  is_insert =
      subst (λ ks. IsCommand ks) (sym kinds_are)
      (that (that (that (this (this (this (this (this (part (where_stands.derived (kinds.Values ∷ kinds.LeftParen ∷ (kinds_of what_stands.tokens ++ kinds.RightParen ∷ [])))
      (this (this (part (what_stands.derived (kinds.RightParen ∷ [])) (this nothing)))))))))))))

  is_flat_enough : is_shallow 0 (kinds_of tokens_of) ≡ true
  is_flat_enough =
      ap (is_shallow 0) kinds_are
      ∙ where_stands.shallow (kinds.Values ∷ kinds.LeftParen ∷ (kinds_of what_stands.tokens ++ kinds.RightParen ∷ [])) (what_stands.shallow (kinds.RightParen ∷ []) refl)

  spelled_so : lexemes_of tokens_of ≡ spelling (written_insert table_token route_token where_stands.written what_stands.written)
  spelled_so =
      ap (λ ls. mark kinds.Insert ∷ mark kinds.Into ∷ told kinds.Name table_token ∷ mark kinds.On ∷ told kinds.Name route_token ∷ ls)
      (map-append lexeme_of where_stands.tokens back
      ∙ ap (λ ls. ls ++ lexemes_of back) where_stands.spelled
      ∙ ap (λ ls. location_lexemes where_stands.written ++ (mark kinds.Values ∷ mark kinds.LeftParen ∷ ls))
      (map-append lexeme_of what_stands.tokens (closing_token ∷ []) ∙ ap (λ ls. ls ++ mark kinds.RightParen ∷ []) what_stands.spelled))

  -- the line says the INSERT of its parts
  pub line_reads : Reads line start (Ok (insert table route location row))
  line_reads =
      let table_said : table ≡ token_text line table_token = sym (word_text line (start + 1 + 6 + 1 + 4) table after_table kinds.Name p2) in
      let route_said : route ≡ token_text line route_token = sym (word_text line (behind_table + 1 + 2) route after_route kinds.Name p4) in
      let written = written_insert table_token route_token where_stands.written what_stands.written in
      has_tokens tokens_of (Ok (insert table route location row)) line_cut
      (is_command written (insert table route location row) (record { command = is_insert; shallow = is_flat_enough; spelled = spelled_so })
      (location, row, where_stands.says, what_stands.says, ap (λ n. insert n route location row) table_said ∙ ap (λ n. insert (token_text line table_token) n location row) route_said))
