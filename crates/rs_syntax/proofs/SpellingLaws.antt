-- What is spelled says how it is written: the parts of a command but queries.
use Rattle.std.proofs.Common.{◌≡◌, Bool, true, false, List, [], ◌∷◌, ◌++◌, Option, Some, None, refl, sym, ap, ◌∙◌, append_assoc, append-nil}
use Rattle.std.proofs.lemmas.Bool.{false≢true}
use Rattle.rs_methods.specs.declared.position.Method.{Method}
use Rattle.rs_methods.specs.declared.position.Method.TheVariants as methods
use Rattle.rs_grammar.specs.declared.kind.TokenKind.{TokenKind}
use Rattle.rs_grammar.specs.declared.kind.TokenKind.TheVariants as kinds
use Rattle.rs_lexer.specs.declared.token.Token.{Token}
use Rattle.rs_syntax.specs.declared.written.WrittenType.{WrittenType}
use Rattle.rs_syntax.specs.declared.written.WrittenType.TheVariants as written_types
use Rattle.rs_syntax.specs.declared.written.WrittenColumn.{WrittenColumn}
use Rattle.rs_syntax.specs.declared.written.WrittenValue.{WrittenValue}
use Rattle.rs_syntax.specs.declared.written.WrittenValue.TheVariants as written_values
use Rattle.rs_syntax.specs.declared.written.WrittenPosition.{WrittenPosition}
use Rattle.rs_syntax.specs.declared.written.WrittenPosition.TheVariants as written_positions
use Rattle.rs_syntax.specs.declared.written.WrittenLocation.{WrittenLocation}
use Rattle.rs_syntax.specs.declared.written.WrittenLocation.TheVariants as written_locations
use Rattle.rs_syntax.specs.declared.written.WrittenPiece.{WrittenPiece}
use Rattle.rs_syntax.specs.WrittenParts.{Lexeme, mark, told, measure_lexemes, position_lexemes, span_lexemes, location_lexemes, method_kind, wanted_lexemes, type_lexemes, column_lexemes, value_lexemes, name_lexemes, piece_lexemes, further_lexemes, list_lexemes}

-- The items are the same, and what follows them.
abbrev pub Same : {A : Type 0} → (A → List Lexeme) → A → A → List Lexeme → List Lexeme → Type 0
Same lexemes x y m n = lexemes x ++ m ≡ lexemes y ++ n → (x ≡ y) × (m ≡ n)

type_same : (x y : WrittenType) (m n : List Lexeme) → Same type_lexemes x y m n
type_same written_types.Int written_types.Int m n e = (refl, cc)
type_same written_types.Int (written_types.Text b) m n e = absurd cc
type_same (written_types.Text a) written_types.Int m n e = absurd cc
type_same (written_types.Text a) (written_types.Text b) m n e = (cc, cc)

column_from : (x y : WrittenColumn) → x.name ≡ y.name → x.column_type ≡ y.column_type → x ≡ y
column_from x y names types = ap (λ t. record { name = t; column_type = x.column_type }) names ∙ ap (λ t. record { name = y.name; column_type = t }) types

column_same : (x y : WrittenColumn) (m n : List Lexeme) → Same column_lexemes x y m n
column_same x y m n e =
    let name : x.name ≡ y.name = cc in
    let rest : type_lexemes x.column_type ++ m ≡ type_lexemes y.column_type ++ n = cc in
    let types = type_same x.column_type y.column_type m n rest in
    (column_from x y name types.0, types.1)

pub value_same : (x y : WrittenValue) (m n : List Lexeme) → Same value_lexemes x y m n
value_same written_values.Null written_values.Null m n e = (refl, cc)
value_same written_values.Null (written_values.Whole true b) m n e = absurd cc
value_same written_values.Null (written_values.Whole false b) m n e = absurd cc
value_same written_values.Null (written_values.Quoted b) m n e = absurd cc
value_same (written_values.Whole true a) written_values.Null m n e = absurd cc
value_same (written_values.Whole true a) (written_values.Whole true b) m n e = (cc, cc)
value_same (written_values.Whole true a) (written_values.Whole false b) m n e = absurd cc
value_same (written_values.Whole true a) (written_values.Quoted b) m n e = absurd cc
value_same (written_values.Whole false a) written_values.Null m n e = absurd cc
value_same (written_values.Whole false a) (written_values.Whole true b) m n e = absurd cc
value_same (written_values.Whole false a) (written_values.Whole false b) m n e = (cc, cc)
value_same (written_values.Whole false a) (written_values.Quoted b) m n e = absurd cc
value_same (written_values.Quoted a) written_values.Null m n e = absurd cc
value_same (written_values.Quoted a) (written_values.Whole true b) m n e = absurd cc
value_same (written_values.Quoted a) (written_values.Whole false b) m n e = absurd cc
value_same (written_values.Quoted a) (written_values.Quoted b) m n e = (cc, cc)

column_is_no_end : (x : WrittenColumn) (m n : List Lexeme) → mark kinds.RightParen ∷ m ≡ column_lexemes x ++ n → ⊥
column_is_no_end x m n e = cc

value_is_no_end : (x : WrittenValue) (m n : List Lexeme) → mark kinds.RightParen ∷ m ≡ value_lexemes x ++ n → ⊥
value_is_no_end written_values.Null m n e = cc
value_is_no_end (written_values.Whole true a) m n e = cc
value_is_no_end (written_values.Whole false a) m n e = cc
value_is_no_end (written_values.Quoted a) m n e = cc

name_same : (x y : Token) (m n : List Lexeme) → Same name_lexemes x y m n
name_same x y m n e = (cc, cc)

name_is_no_end : (x : Token) (m n : List Lexeme) → mark kinds.RightParen ∷ m ≡ name_lexemes x ++ n → ⊥
name_is_no_end x m n e = cc

piece_from : (x y : WrittenPiece) → x.from_route ≡ y.from_route → x.from ≡ y.from → x.to ≡ y.to → x.onto_route ≡ y.onto_route → x.onto ≡ y.onto → x ≡ y
piece_from x y from_route from to onto_route onto =
    ap (λ t. record { from_route = t; from = x.from; to = x.to; onto_route = x.onto_route; onto = x.onto }) from_route
    ∙ ap (λ t. record { from_route = y.from_route; from = t; to = x.to; onto_route = x.onto_route; onto = x.onto }) from
    ∙ ap (λ t. record { from_route = y.from_route; from = y.from; to = t; onto_route = x.onto_route; onto = x.onto }) to
    ∙ ap (λ t. record { from_route = y.from_route; from = y.from; to = y.to; onto_route = t; onto = x.onto }) onto_route
    ∙ ap (λ t. record { from_route = y.from_route; from = y.from; to = y.to; onto_route = y.onto_route; onto = t }) onto

piece_same : (x y : WrittenPiece) (m n : List Lexeme) → Same piece_lexemes x y m n
piece_same x y m n e =
    let from_route : x.from_route ≡ y.from_route = cc in
    let from : x.from ≡ y.from = cc in
    let to : x.to ≡ y.to = cc in
    let onto_route : x.onto_route ≡ y.onto_route = cc in
    let onto : x.onto ≡ y.onto = cc in
    (piece_from x y from_route from to onto_route onto, cc)

piece_is_no_end : (x : WrittenPiece) (m n : List Lexeme) → mark kinds.RightParen ∷ m ≡ piece_lexemes x ++ n → ⊥
piece_is_no_end x m n e = cc

-- A list with its commas, up to a closing bracket.
module _ {A : Type 0} (lexemes : A → List Lexeme) (same : (x y : A) (m n : List Lexeme) → Same lexemes x y m n)
    (is_no_end : (x : A) (m n : List Lexeme) → mark kinds.RightParen ∷ m ≡ lexemes x ++ n → ⊥) where
  further_same : (xs ys : List A) (m n : List Lexeme) → further_lexemes kinds.Comma lexemes xs ++ mark kinds.RightParen ∷ m ≡ further_lexemes kinds.Comma lexemes ys ++ mark kinds.RightParen ∷ n → (xs ≡ ys) × (m ≡ n)
  further_same [] [] m n e = (refl, cc)
  further_same [] (y ∷ ys) m n e = absurd cc
  further_same (x ∷ xs) [] m n e = absurd cc
  further_same (x ∷ xs) (y ∷ ys) m n e =
      let mine = further_lexemes kinds.Comma lexemes xs in
      let yours = further_lexemes kinds.Comma lexemes ys in
      let rest : (lexemes x ++ mine) ++ mark kinds.RightParen ∷ m ≡ (lexemes y ++ yours) ++ mark kinds.RightParen ∷ n = cc in
      let p = same x y (mine ++ mark kinds.RightParen ∷ m) (yours ++ mark kinds.RightParen ∷ n)
      (sym (append_assoc (lexemes x) mine (mark kinds.RightParen ∷ m)) ∙ rest ∙ append_assoc (lexemes y) yours (mark kinds.RightParen ∷ n)) in
      let others = further_same xs ys m n p.1 in
      (ap (λ z. z ∷ xs) p.0 ∙ ap (λ zs. y ∷ zs) others.0, others.1)

  pub list_same : (xs ys : List A) (m n : List Lexeme) → list_lexemes kinds.Comma lexemes xs ++ mark kinds.RightParen ∷ m ≡ list_lexemes kinds.Comma lexemes ys ++ mark kinds.RightParen ∷ n → (xs ≡ ys) × (m ≡ n)
  list_same [] [] m n e = (refl, cc)
  list_same [] (y ∷ ys) m n e =
      absurd (is_no_end y m (further_lexemes kinds.Comma lexemes ys ++ mark kinds.RightParen ∷ n) (e ∙ append_assoc (lexemes y) (further_lexemes kinds.Comma lexemes ys) (mark kinds.RightParen ∷ n)))
  list_same (x ∷ xs) [] m n e =
      absurd (is_no_end x n (further_lexemes kinds.Comma lexemes xs ++ mark kinds.RightParen ∷ m) (sym e ∙ append_assoc (lexemes x) (further_lexemes kinds.Comma lexemes xs) (mark kinds.RightParen ∷ m)))
  list_same (x ∷ xs) (y ∷ ys) m n e =
      let mine = further_lexemes kinds.Comma lexemes xs in
      let yours = further_lexemes kinds.Comma lexemes ys in
      let p = same x y (mine ++ mark kinds.RightParen ∷ m) (yours ++ mark kinds.RightParen ∷ n)
      (sym (append_assoc (lexemes x) mine (mark kinds.RightParen ∷ m)) ∙ e ∙ append_assoc (lexemes y) yours (mark kinds.RightParen ∷ n)) in
      let others = further_same xs ys m n p.1 in
      (ap (λ z. z ∷ xs) p.0 ∙ ap (λ zs. y ∷ zs) others.0, others.1)

pub columns_same : (xs ys : List WrittenColumn) (m n : List Lexeme) → list_lexemes kinds.Comma column_lexemes xs ++ mark kinds.RightParen ∷ m ≡ list_lexemes kinds.Comma column_lexemes ys ++ mark kinds.RightParen ∷ n → (xs ≡ ys) × (m ≡ n)
columns_same xs ys m n e = list_same column_lexemes column_same column_is_no_end xs ys m n e

pub values_same : (xs ys : List WrittenValue) (m n : List Lexeme) → list_lexemes kinds.Comma value_lexemes xs ++ mark kinds.RightParen ∷ m ≡ list_lexemes kinds.Comma value_lexemes ys ++ mark kinds.RightParen ∷ n → (xs ≡ ys) × (m ≡ n)
values_same xs ys m n e = list_same value_lexemes value_same value_is_no_end xs ys m n e

pub names_same : (xs ys : List Token) (m n : List Lexeme) → list_lexemes kinds.Comma name_lexemes xs ++ mark kinds.RightParen ∷ m ≡ list_lexemes kinds.Comma name_lexemes ys ++ mark kinds.RightParen ∷ n → (xs ≡ ys) × (m ≡ n)
names_same xs ys m n e = list_same name_lexemes name_same name_is_no_end xs ys m n e

pub pieces_same : (xs ys : List WrittenPiece) (m n : List Lexeme) → list_lexemes kinds.Comma piece_lexemes xs ++ mark kinds.RightParen ∷ m ≡ list_lexemes kinds.Comma piece_lexemes ys ++ mark kinds.RightParen ∷ n → (xs ≡ ys) × (m ≡ n)
pieces_same xs ys m n e = list_same piece_lexemes piece_same piece_is_no_end xs ys m n e

-- What follows a position goes on with none of its signs.
abbrev pub is_sign : TokenKind → Bool
is_sign kinds.PercentSign = true
is_sign kinds.PlusSign = true
is_sign kinds.MinusSign = true
is_sign _ = false

abbrev pub begins_with_sign : List Lexeme → Bool
begins_with_sign [] = false
begins_with_sign (mark kind ∷ more) = is_sign kind
begins_with_sign (told kind token ∷ more) = false

no_sign : {P : Type 0} (more other : List Lexeme) → more ≡ other → begins_with_sign more ≡ false → begins_with_sign other ≡ true → P
no_sign more other e none some = absurd (false≢true (sym none ∙ ap begins_with_sign e ∙ some))

abbrev SamePosition : WrittenPosition → WrittenPosition → List Lexeme → List Lexeme → Type 0
SamePosition x y m n = begins_with_sign m ≡ false → begins_with_sign n ≡ false → Same position_lexemes x y m n

measure_position : (a : Token) (y : WrittenPosition) (m n : List Lexeme) → SamePosition (written_positions.Measure a) y m n
measure_position a (written_positions.Measure b) m n p q e = (cc, cc)
measure_position a (written_positions.Percentage b) m n p q e =
    let rest : m ≡ mark kinds.PercentSign ∷ n = cc in
    no_sign m (mark kinds.PercentSign ∷ n) rest p refl
measure_position a (written_positions.Referent b) m n p q e = absurd cc
measure_position a (written_positions.Beyond b t) m n p q e = absurd cc
measure_position a (written_positions.Before b t) m n p q e = absurd cc

percentage_position : (a : Token) (y : WrittenPosition) (m n : List Lexeme) → SamePosition (written_positions.Percentage a) y m n
percentage_position a (written_positions.Measure b) m n p q e =
    let rest : n ≡ mark kinds.PercentSign ∷ m = cc in
    no_sign n (mark kinds.PercentSign ∷ m) rest q refl
percentage_position a (written_positions.Percentage b) m n p q e = (cc, cc)
percentage_position a (written_positions.Referent b) m n p q e = absurd cc
percentage_position a (written_positions.Beyond b t) m n p q e = absurd cc
percentage_position a (written_positions.Before b t) m n p q e = absurd cc

referent_position : (a : Token) (y : WrittenPosition) (m n : List Lexeme) → SamePosition (written_positions.Referent a) y m n
referent_position a (written_positions.Measure b) m n p q e = absurd cc
referent_position a (written_positions.Percentage b) m n p q e = absurd cc
referent_position a (written_positions.Referent b) m n p q e = (cc, cc)
referent_position a (written_positions.Beyond b t) m n p q e =
    let rest : m ≡ mark kinds.PlusSign ∷ measure_lexemes t ++ n = cc in
    no_sign m (mark kinds.PlusSign ∷ measure_lexemes t ++ n) rest p refl
referent_position a (written_positions.Before b t) m n p q e =
    let rest : m ≡ mark kinds.MinusSign ∷ measure_lexemes t ++ n = cc in
    no_sign m (mark kinds.MinusSign ∷ measure_lexemes t ++ n) rest p refl

beyond_position : (a t : Token) (y : WrittenPosition) (m n : List Lexeme) → SamePosition (written_positions.Beyond a t) y m n
beyond_position a t (written_positions.Measure b) m n p q e = absurd cc
beyond_position a t (written_positions.Percentage b) m n p q e = absurd cc
beyond_position a t (written_positions.Referent b) m n p q e =
    let rest : n ≡ mark kinds.PlusSign ∷ measure_lexemes t ++ m = cc in
    no_sign n (mark kinds.PlusSign ∷ measure_lexemes t ++ m) rest q refl
beyond_position a t (written_positions.Beyond b u) m n p q e = (cc, cc)
beyond_position a t (written_positions.Before b u) m n p q e = absurd cc

before_position : (a t : Token) (y : WrittenPosition) (m n : List Lexeme) → SamePosition (written_positions.Before a t) y m n
before_position a t (written_positions.Measure b) m n p q e = absurd cc
before_position a t (written_positions.Percentage b) m n p q e = absurd cc
before_position a t (written_positions.Referent b) m n p q e =
    let rest : n ≡ mark kinds.MinusSign ∷ measure_lexemes t ++ m = cc in
    no_sign n (mark kinds.MinusSign ∷ measure_lexemes t ++ m) rest q refl
before_position a t (written_positions.Beyond b u) m n p q e = absurd cc
before_position a t (written_positions.Before b u) m n p q e = (cc, cc)

pub position_same : (x y : WrittenPosition) (m n : List Lexeme) → SamePosition x y m n
position_same (written_positions.Measure a) y m n = measure_position a y m n
position_same (written_positions.Percentage a) y m n = percentage_position a y m n
position_same (written_positions.Referent a) y m n = referent_position a y m n
position_same (written_positions.Beyond a t) y m n = beyond_position a t y m n
position_same (written_positions.Before a t) y m n = before_position a t y m n

-- a position at the end
pub last_position : (x y : WrittenPosition) → position_lexemes x ≡ position_lexemes y → x ≡ y
last_position x y e = (position_same x y [] [] refl refl (append-nil (position_lexemes x) ∙ e ∙ sym (append-nil (position_lexemes y)))).0

-- two positions after FROM
pub span_same : (a b c d : WrittenPosition) (m n : List Lexeme) → begins_with_sign m ≡ false → begins_with_sign n ≡ false → span_lexemes a b ++ m ≡ span_lexemes c d ++ n → (a ≡ c) × (b ≡ d) × (m ≡ n)
span_same a b c d m n p q e =
    let first = position_same a c (mark kinds.To ∷ (position_lexemes b ++ m)) (mark kinds.To ∷ (position_lexemes d ++ n)) refl refl
    (sym (append_assoc (position_lexemes a) (mark kinds.To ∷ position_lexemes b) m) ∙ e ∙ append_assoc (position_lexemes c) (mark kinds.To ∷ position_lexemes d) n) in
    let behind : mark kinds.To ∷ (position_lexemes b ++ m) ≡ mark kinds.To ∷ (position_lexemes d ++ n) = first.1 in
    let second = position_same b d m n p q cc in
    (first.0, second.0, second.1)

pub location_same : (x y : WrittenLocation) (m n : List Lexeme) → begins_with_sign m ≡ false → begins_with_sign n ≡ false → Same location_lexemes x y m n
location_same (written_locations.Along a b) (written_locations.Along c d) m n p q e =
    let rest : span_lexemes a b ++ m ≡ span_lexemes c d ++ n = cc in
    let spans = span_same a b c d m n p q rest in
    let from : a ≡ c = spans.0 in
    let to : b ≡ d = spans.1 in
    (cc, spans.2)
location_same (written_locations.Along a b) (written_locations.At c) m n p q e = absurd cc
location_same (written_locations.At a) (written_locations.Along c d) m n p q e = absurd cc
location_same (written_locations.At a) (written_locations.At c) m n p q e =
    let rest : position_lexemes a ++ m ≡ position_lexemes c ++ n = cc in
    let first = position_same a c m n p q rest in
    let position : a ≡ c = first.0 in
    (cc, first.1)

pub method_same : (x y : Method) → method_kind x ≡ method_kind y → x ≡ y
method_same methods.Absolute methods.Absolute e = refl
method_same methods.Absolute methods.Relative e = absurd cc
method_same methods.Absolute methods.Interpolative e = absurd cc
method_same methods.Relative methods.Absolute e = absurd cc
method_same methods.Relative methods.Relative e = refl
method_same methods.Relative methods.Interpolative e = absurd cc
method_same methods.Interpolative methods.Absolute e = absurd cc
method_same methods.Interpolative methods.Relative e = absurd cc
method_same methods.Interpolative methods.Interpolative e = refl

pub wanted_same : (x y : Option Method) → wanted_lexemes x ≡ wanted_lexemes y → x ≡ y
wanted_same None None e = refl
wanted_same None (Some y) e = absurd cc
wanted_same (Some x) None e = absurd cc
wanted_same (Some x) (Some y) e = let kinds_same : method_kind x ≡ method_kind y = cc in ap Some (method_same x y kinds_same)
