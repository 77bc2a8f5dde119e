-- The line that is put together is a session's, and says the INSERT of its record.
use Rattle.std.proofs.Common.{◌≡◌, ◌∙◌, ℕ, ◌<◌, ◌≤◌, Bool, true, false, inl, inr, List, [], ◌∷◌, ◌++◌, length, Some, Ok, refl, sym, ap, subst, append_assoc, le-leb, arith}
use Rattle.std.specs.Prelude.{codes, IsUtf8}
use Rattle.std.specs.Char.{is_ascii_alphabetic}
use Rattle.std.specs.List.{list_all}
use Rattle.std.proofs.lemmas.Bool.{and_parts, false≢true}
use Rattle.rs_grammar.specs.declared.kind.TokenKind.TheVariants as kinds
use Rattle.rs_grammar.specs.declared.kind.TheConstants.{NAME_BYTES}
use Rattle.rs_grammar.specs.Words.{is_word_byte}
use Rattle.rs_lexer.specs.Lexis.{token_kind, word_kind}
use Rattle.rs_lexer.proofs.CutLaws.{cut_inside}
use Rattle.rs_lexer.proofs.TokenLaws.{is_word, tells}
use Rattle.rs_methods.specs.Position.{PositionExpression}
use Rattle.rs_methods.specs.PositionText.{IsWord}
use Rattle.rs_value.specs.declared.column.ColumnType.{ColumnType}
use Rattle.rs_value.specs.declared.column.ColumnType.TheVariants as types
use Rattle.rs_value.specs.Row.{Datum, Row}
use Rattle.rs_value.specs.Values.{is_text}
use Rattle.rs_syntax.specs.Sound.{IsName}
use Rattle.rs_syntax.specs.Tree.{EventLocationTree, along, at_point, CommandTree, insert}
use Rattle.rs_syntax.specs.Verdict.{Reads}
use Rattle.rs_machine.specs.declared.limits.TheConstants.{LINE_BYTES}
use Rattle.rs_machine.specs.Request.{without_return, Asks, command}
use Rattle.rs_csv_lines.specs.declared.plan.Measures.{Measures}
use Rattle.rs_csv_lines.specs.declared.plan.Column.{Column}
use Rattle.rs_csv_lines.specs.declared.plan.Place.{Place}
use Rattle.rs_csv_lines.specs.declared.plan.Place.TheVariants as places
use Rattle.rs_csv_lines.specs.declared.plan.Plan.{Plan}
use Rattle.rs_csv_lines.specs.declared.plan.Scale.{Scale}
use Rattle.rs_csv_lines.specs.Fields.{content, SaysName, TellsPosition, TellsNumber, TellsDatum}
use Rattle.rs_csv_lines.specs.Names.{SaysRoute}
use Rattle.rs_csv_lines.specs.Texts.{session_text, PutsPosition, PutsNumber, PutsDatum}
use Rattle.rs_csv_lines.specs.Inserts.{TellsRoute, TellsPositionAt, TellsPlace, TellsRow, IsInsertOf, PutsPositionAt, PutsPlace, PutsFurther, PutsRow, insert_line}
use Rattle.rs_csv_lines.proofs.Clean.{IsClean, is_clean_text, line_clean, name_clean, route_clean}
use Rattle.rs_csv_lines.proofs.Sessions.{session_begins, session_asks, no_return}
use Rattle.rs_csv_lines.proofs.Lines.{line_reads}

-- a name is a token by itself
name_kind : (text name : List ℕ) → SaysName text name → token_kind name ≡ Some kinds.Name
name_kind text name says =
    ap token_kind says.is ∙ (cut_inside text says.cut 0 says.token (omega arith)).kind ∙ ap (λ k. Some k) says.kind

name_word : (name : List ℕ) → IsName name → word_kind name ≡ kinds.Name
unfolding word_kind
name_word name is = let free = is.not_reserved in rw (free, le-leb (length name) NAME_BYTES is.short) refl

kind_of_word : (name : List ℕ) → IsWord name → word_kind name ≡ kinds.Name → token_kind name ≡ Some kinds.Name
unfolding token_kind
kind_of_word [] word is = absurd word
kind_of_word (letter ∷ bytes) word is = rw (word.0, word.1, is) refl

pub kind_of_name : (name : List ℕ) → IsName name → token_kind name ≡ Some kinds.Name
kind_of_name name is = kind_of_word name is.word (name_word name is)

-- so is that of a route, which has no control character
route_kind : (makes_names : Bool) (text name : List ℕ) → SaysRoute makes_names text name → token_kind name ≡ Some kinds.Name
route_kind false text name says = name_kind text name says
route_kind true text name says = kind_of_name name says.is_name

-- and it is a name
name_of_kind : (name : List ℕ) → token_kind name ≡ Some kinds.Name → IsName name
name_of_kind name is = let told = tells name kinds.Name is in record { word = word_of name told.word; short = told.short; not_reserved = told.free }
  where
    word_of : (bytes : List ℕ) → is_word bytes ≡ true → IsWord bytes
    word_of [] is = absurd (false≢true is)
    word_of (letter ∷ bytes) is = and_parts (is_ascii_alphabetic letter) (list_all is_word_byte bytes) is

pub route_is_name : (makes_names : Bool) (text name : List ℕ) → SaysRoute makes_names text name → IsName name
route_is_name makes_names text name says = name_of_kind name (route_kind makes_names text name says)

route_is_clean : (makes_names : Bool) (text name : List ℕ) → (makes_names ≡ false → is_text text ≡ true) → SaysRoute makes_names text name → IsClean name
route_is_clean false text name plain says = route_clean text name (plain refl) says
route_is_clean true text name plain says = name_clean name says.is_name.word

-- what is put says what is told
position_told : (reading : Measures) (field : List ℕ) (position : PositionExpression) (bytes : List ℕ) → PutsPosition reading field position bytes → TellsPosition reading field position
position_told reading field position bytes (inl puts) = inl (puts.0, puts.1)
position_told reading field position bytes (inr (inl puts)) = inr (inl (puts.0, puts.1, puts.2))
position_told reading field position bytes (inr (inr puts)) = inr (inr (puts.0, puts.1, puts.2, puts.3, puts.4))

number_told : (scale : Scale) (field : List ℕ) (datum : Datum) (bytes : List ℕ) → PutsNumber scale field datum bytes → TellsNumber scale field datum
number_told scale field datum bytes (inl puts) = inl (puts.0, puts.1, puts.2, puts.3, puts.5)
number_told scale field datum bytes (inr puts) = inr (puts.0, puts.1, puts.2, puts.3)

datum_told : (type : ColumnType) (scale : Scale) (field : List ℕ) (datum : Datum) (bytes : List ℕ) → PutsDatum type scale field datum bytes → TellsDatum type scale field datum
datum_told types.Int scale [] datum bytes puts = puts.0
datum_told (types.Text most) scale [] datum bytes puts = puts.0
datum_told types.Int scale (byte ∷ rest) datum bytes puts = number_told scale (content (byte ∷ rest)) datum bytes puts
datum_told (types.Text most) scale (byte ∷ rest) datum bytes puts = puts.0

module _ (reading : Measures) (fields : List (List ℕ)) where
  position_at_told : (i : ℕ) (position : PositionExpression) (bytes : List ℕ) → PutsPositionAt reading fields i position bytes → TellsPositionAt reading fields i position
  position_at_told i position bytes puts = (puts.0, puts.1, puts.2, position_told reading (content puts.0) position bytes puts.3)

  place_told : (plan : Place) (location : EventLocationTree) (bytes : List ℕ) → PutsPlace reading fields plan location bytes → TellsPlace reading fields plan location
  place_told (places.Along from to) (along first second) bytes puts = (position_at_told from first puts.0 puts.2, position_at_told to second puts.1 puts.3)
  place_told (places.At at) (at_point position) bytes puts = position_at_told at position puts.0 puts.1
  place_told (places.Along from to) (at_point position) bytes puts = elim puts [ ]
  place_told (places.At at) (along first second) bytes puts = elim puts [ ]

module _ (number_of : ℕ) (fields : List (List ℕ)) where
  further_told : (columns : List Column) (row : Row) (bytes : List ℕ) → PutsFurther number_of fields columns row bytes → TellsRow number_of fields columns row
  further_told [] [] bytes puts = tt
  further_told (column ∷ columns) (datum ∷ row) bytes puts =
      let one = puts.2 in
      ((one.0, one.1, one.2, datum_told column.column_type column.scale one.0 datum puts.0 one.3), further_told columns row puts.1 puts.3)
  further_told [] (datum ∷ row) bytes puts = elim puts [ ]
  further_told (column ∷ columns) [] bytes puts = elim puts [ ]

  row_told : (columns : List Column) (row : Row) (bytes : List ℕ) → PutsRow number_of fields columns row bytes → TellsRow number_of fields columns row
  row_told (column ∷ columns) (datum ∷ row) bytes puts =
      let one = puts.2 in
      ((one.0, one.1, one.2, datum_told column.column_type column.scale one.0 datum puts.0 one.3), further_told columns row puts.1 puts.3)
  row_told [] row bytes puts = elim puts [ ]
  row_told (column ∷ columns) [] bytes puts = elim puts [ ]

-- the INSERT of a record, of this route and place, and the line that asks it
abbrev pub AsksInsert : Plan → ℕ → List (List ℕ) → List ℕ → EventLocationTree → List ℕ → Type 0
AsksInsert plan number_of fields route location line =
    (tree : CommandTree) × (inserts : IsInsertOf plan number_of fields tree) × (inserts.route ≡ route) × Asks line (command plan.session tree) × (inserts.place ≡ location)

ends_plain : (session : ℕ) (table route place_bytes values : List ℕ) → without_return (insert_line session table route place_bytes values) ≡ insert_line session table route place_bytes values
ends_plain session table route place_bytes values =
    let front : List ℕ = session_text session ++ (codes " INSERT INTO " ++ (table ++ (codes " ON " ++ (route ++ (place_bytes ++ (codes " VALUES (" ++ values)))))) in
    let whole : front ++ codes ")" ≡ insert_line session table route place_bytes values =
    append_assoc (session_text session) (codes " INSERT INTO " ++ (table ++ (codes " ON " ++ (route ++ (place_bytes ++ (codes " VALUES (" ++ values)))))) (codes ")")
    ∙ ap (λ bs. session_text session ++ (codes " INSERT INTO " ++ bs))
    (append_assoc table (codes " ON " ++ (route ++ (place_bytes ++ (codes " VALUES (" ++ values)))) (codes ")")
    ∙ ap (λ bs. table ++ (codes " ON " ++ bs))
    (append_assoc route (place_bytes ++ (codes " VALUES (" ++ values)) (codes ")")
    ∙ ap (λ bs. route ++ bs) (append_assoc place_bytes (codes " VALUES (" ++ values) (codes ")")))) in
    subst (λ bs. without_return bs ≡ bs) whole (no_return front 41 refl)

pub line_asks : (plan : Plan) (number_of : ℕ) (fields : List (List ℕ)) (line route place_bytes values : List ℕ) (location : EventLocationTree) (row : Row)
    → plan.session < 64 → IsName plan.table.bytes → IsUtf8 line → length line ≤ LINE_BYTES
    → TellsRoute plan.makes_names fields plan.route route → PutsPlace plan.measures fields plan.place location place_bytes → PutsRow number_of fields plan.columns.items row values
    → line ≡ insert_line plan.session plan.table.bytes route place_bytes values → AsksInsert plan number_of fields route location line
line_asks plan number_of fields line route place_bytes values location row few named utf8 short puts_route puts_place puts_row is =
    let table = plan.table.bytes in
    let whole = insert_line plan.session table route place_bytes values in
    let tree = insert table route location row in
    let table_is : token_kind table ≡ Some kinds.Name = kind_of_name table named in
    let reads : Reads whole (length (session_text plan.session)) (Ok tree) =
    line_reads plan.session table route place_bytes values plan.measures number_of fields plan.place location plan.columns.items row table_is (route_kind plan.makes_names (content puts_route.0) route puts_route.3) puts_place puts_row in
    let text = is_clean_text whole (subst IsUtf8 is utf8)
    (line_clean plan.measures number_of fields plan.session table route place_bytes values plan.place location plan.columns.items row few named.word (route_is_clean plan.makes_names (content puts_route.0) route puts_route.2 puts_route.3) puts_place puts_row) in (
      tree,
      record { route = route; place = location; row = row; route_told = puts_route; place_told = place_told plan.measures fields plan.place location place_bytes puts_place; row_told = row_told number_of fields plan.columns.items row values puts_row; is = refl },
      refl,
      subst (λ l. Asks l (command plan.session tree)) (sym is)
          (session_asks whole plan.session (length (session_text plan.session)) tree (subst (λ l. length l ≤ LINE_BYTES) is short) text (ends_plain plan.session table route place_bytes values)
          (session_begins plan.session _ few) reads),
      refl,
    )
