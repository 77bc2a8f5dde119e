-- What a line says is sound: conditions and queries.
use Rattle.std.proofs.Common.{ℕ, Bool, List, [], ◌∷◌, ◌++◌, Option, Some, None, refl, sym, subst}
use Rattle.std.specs.Prelude.{◌≢◌, IsTrue, map}
use Rattle.std.specs.List.{AllByRecursion}
use Rattle.rs_grammar.specs.declared.kind.TokenKind.TheVariants as kinds
use Rattle.rs_lexer.specs.declared.token.Token.{Token}
use Rattle.rs_lexer.specs.Lexis.{token_text}
use Rattle.rs_value.specs.Values.{is_text}
use Rattle.rs_value.specs.Row.{Datum, null, number, text}
use Rattle.rs_syntax.specs.declared.written.WrittenValue.TheVariants as written_values
use Rattle.rs_syntax.specs.declared.written.WrittenWindow.{WrittenWindow}
use Rattle.rs_syntax.specs.declared.written.WrittenWindow.TheVariants as written_windows
use Rattle.rs_syntax.specs.declared.written.WrittenOperand.{WrittenOperand}
use Rattle.rs_syntax.specs.declared.written.WrittenOperand.TheVariants as written_operands
use Rattle.rs_syntax.specs.declared.written.PairOperator.{PairOperator}
use Rattle.rs_syntax.specs.declared.written.PairOperator.TheVariants as pair_operators
use Rattle.rs_syntax.specs.Tree.{WindowTree, OperandTree, ConditionTree, QueryTree}
use Rattle.rs_syntax.specs.WrittenParts.{Lexeme, mark, told, name_lexemes, list_lexemes, SaysDatum, AreToldOf}
use Rattle.rs_syntax.specs.WrittenQueries.{AtomSyntax, written_comparison, written_null, written_not_null, written_negation, written_bracket, ConjunctionSyntax, last_atom, and_then, ConditionSyntax, last_conjunction, or_else, QuerySyntax, written_name, written_where, written_dissolve, written_rename, written_pair, written_window, written_transform, written_gaps, window_lexemes, operand_lexemes, atom_lexemes, conjunction_lexemes, condition_lexemes, bracketed_names_lexemes, query_lexemes, removal_lexemes, SaysWindow, SaysOperand, SaysAtom, SaysConjunction, SaysCondition, paired, SaysQuery, SaysRemoval}
use Rattle.rs_syntax.specs.Sound.{IsName, IsWindow, IsOperand, IsCondition, IsQuery, IsRemovalCondition}
use Rattle.rs_syntax.proofs.ToldLaws.{AreToldOf-append}
use Rattle.rs_syntax.proofs.SoundParts.{name_sound, datum_sound, span_sound, EachTold, each_told}

pub window_sound : (line : List ℕ) (w : WrittenWindow) (tree : WindowTree) → AreToldOf line (window_lexemes w) → SaysWindow line w tree → IsWindow tree
window_sound line (written_windows.Whole route) tree all says = subst IsWindow (sym says) (name_sound line route (token_text line route) all.0 refl)
window_sound line (written_windows.Part route from to) tree all says =
    let span = span_sound line from to says.0 says.1 all.1.1 says.2 says.3 in
    subst IsWindow (sym says.4) (name_sound line route (token_text line route) all.0 refl, span.0, span.1)

-- a number or a text is not NULL
whole_is_some : (line : List ℕ) (is_negative : Bool) (digits : Token) (datum : Datum) → SaysDatum line (written_values.Whole is_negative digits) datum → datum ≢ null
whole_is_some line is_negative digits null says e = says
whole_is_some line is_negative digits (number n) says e = cc
whole_is_some line is_negative digits (text bytes) says e = says

quoted_is_some : (line : List ℕ) (quoted : Token) (datum : Datum) → SaysDatum line (written_values.Quoted quoted) datum → datum ≢ null
quoted_is_some line quoted null says e = says
quoted_is_some line quoted (number n) says e = says
quoted_is_some line quoted (text bytes) says e = cc

operand_sound : (line : List ℕ) (w : WrittenOperand) (tree : OperandTree) → IsTrue (is_text line) → AreToldOf line (operand_lexemes w) → SaysOperand line w tree → IsOperand tree
operand_sound line (written_operands.Column name) tree clean all says = subst IsOperand (sym says) (name_sound line name (token_text line name) all.0 refl)
operand_sound line (written_operands.Whole is_negative digits) tree clean all says =
    subst IsOperand (sym says.2) (datum_sound line (written_values.Whole is_negative digits) says.0 clean all says.1, whole_is_some line is_negative digits says.0 says.1)
operand_sound line (written_operands.Quoted quoted) tree clean all says =
    subst IsOperand (sym says.2) (datum_sound line (written_values.Quoted quoted) says.0 clean all says.1, quoted_is_some line quoted says.0 says.1)

mutual
  atom_sound : (line : List ℕ) (w : AtomSyntax) (tree : ConditionTree) → IsTrue (is_text line) → AreToldOf line (atom_lexemes w) → SaysAtom line w tree → IsCondition tree
  atom_sound line (written_comparison name comparison operand) tree clean all says =
      subst IsCondition (sym says.2) (name_sound line name (token_text line name) all.0 refl, operand_sound line operand says.0 clean all.1.1 says.1)
  atom_sound line (written_null name) tree clean all says = subst IsCondition (sym says) (name_sound line name (token_text line name) all.0 refl)
  atom_sound line (written_not_null name) tree clean all says = subst IsCondition (sym says) (name_sound line name (token_text line name) all.0 refl)
  atom_sound line (written_negation w) tree clean all says =
      subst IsCondition (sym says.2) (condition_sound line w says.0 clean (AreToldOf-append line (condition_lexemes w) (mark kinds.RightParen ∷ []) all.1.1).0 says.1)
  atom_sound line (written_bracket w) tree clean all says =
      subst IsCondition (sym says.2) (condition_sound line w says.0 clean (AreToldOf-append line (condition_lexemes w) (mark kinds.RightParen ∷ []) all.1).0 says.1)

  conjunction_sound : (line : List ℕ) (w : ConjunctionSyntax) (tree : ConditionTree) → IsTrue (is_text line) → AreToldOf line (conjunction_lexemes w) → SaysConjunction line w tree → IsCondition tree
  conjunction_sound line (last_atom w) tree clean all says = atom_sound line w tree clean all says
  conjunction_sound line (and_then v w) tree clean all says =
      let told = AreToldOf-append line (atom_lexemes v) (mark kinds.And ∷ conjunction_lexemes w) all in
      subst IsCondition (sym says.4) (atom_sound line v says.0 clean told.0 says.2, conjunction_sound line w says.1 clean told.1.1 says.3)

  condition_sound : (line : List ℕ) (w : ConditionSyntax) (tree : ConditionTree) → IsTrue (is_text line) → AreToldOf line (condition_lexemes w) → SaysCondition line w tree → IsCondition tree
  condition_sound line (last_conjunction w) tree clean all says = conjunction_sound line w tree clean all says
  condition_sound line (or_else v w) tree clean all says =
      let told = AreToldOf-append line (conjunction_lexemes v) (mark kinds.Or ∷ condition_lexemes w) all in
      subst IsCondition (sym says.4) (conjunction_sound line v says.0 clean told.0 says.2, condition_sound line w says.1 clean told.1.1 says.3)

-- the tokens of both operands of an operator
operands_told : (line : List ℕ) (query others : List Lexeme) → AreToldOf line (query ++ mark kinds.Comma ∷ (others ++ mark kinds.RightParen ∷ [])) → AreToldOf line query × AreToldOf line others
operands_told line query others all =
    let told = AreToldOf-append line query (mark kinds.Comma ∷ (others ++ mark kinds.RightParen ∷ [])) all in
    (told.0, (AreToldOf-append line others (mark kinds.RightParen ∷ []) told.1.1).0)

names_sound : (line : List ℕ) (names : List Token) → EachTold line name_lexemes names → AllByRecursion IsName (map (token_text line) names)
names_sound line [] each = tt
names_sound line (name ∷ names) each = (name_sound line name (token_text line name) each.0.0 refl, names_sound line names each.1)

pub bracketed_sound : (line : List ℕ) (names : List Token) → AreToldOf line (bracketed_names_lexemes names) → AllByRecursion IsName (map (token_text line) names)
bracketed_sound line names all = names_sound line names (each_told line name_lexemes names (AreToldOf-append line (list_lexemes kinds.Comma name_lexemes names) (mark kinds.RightParen ∷ []) all.1).0)

paired_sound : (o : PairOperator) (left right : QueryTree) → IsQuery left → IsQuery right → IsQuery (paired o left right)
paired_sound pair_operators.Overlay left right p q = (p, q)
paired_sound pair_operators.Cover left right p q = (p, q)
paired_sound pair_operators.Merge left right p q = (p, q)
paired_sound pair_operators.Minus left right p q = (p, q)

pub query_sound : (line : List ℕ) (w : QuerySyntax) (tree : QueryTree) → IsTrue (is_text line) → AreToldOf line (query_lexemes w) → SaysQuery line w tree → IsQuery tree
query_sound line (written_name name) tree clean all says = subst IsQuery (sym says) (name_sound line name (token_text line name) all.0 refl)
query_sound line (written_where w c) tree clean all says =
    let told = operands_told line (query_lexemes w) (condition_lexemes c) all.1.1 in
    subst IsQuery (sym says.4) (query_sound line w says.0 clean told.0 says.2, condition_sound line c says.1 clean told.1 says.3)
query_sound line (written_dissolve w names) tree clean all says =
    let told = operands_told line (query_lexemes w) (bracketed_names_lexemes names) all.1.1 in
    subst IsQuery (sym says.2) (query_sound line w says.0 clean told.0 says.1, bracketed_sound line names told.1)
query_sound line (written_rename w from to) tree clean all says =
    let told = operands_told line (query_lexemes w) (told kinds.Name from ∷ mark kinds.To ∷ told kinds.Name to ∷ []) all.1.1 in
    subst IsQuery (sym says.2) (query_sound line w says.0 clean told.0 says.1, name_sound line from (token_text line from) told.1.0 refl, name_sound line to (token_text line to) told.1.1.1.0 refl)
query_sound line (written_pair o v w) tree clean all says =
    let told = operands_told line (query_lexemes v) (query_lexemes w) all.1.1 in
    subst IsQuery (sym says.4) (paired_sound o says.0 says.1 (query_sound line v says.0 clean told.0 says.2) (query_sound line w says.1 clean told.1 says.3))
query_sound line (written_window w window) tree clean all says =
    let told = operands_told line (query_lexemes w) (window_lexemes window) all.1.1 in
    subst IsQuery (sym says.4) (query_sound line w says.0 clean told.0 says.2, window_sound line window says.1 told.1 says.3)
query_sound line (written_transform w alignment) tree clean all says =
    let told = operands_told line (query_lexemes w) (name_lexemes alignment) all.1.1 in
    subst IsQuery (sym says.2) (query_sound line w says.0 clean told.0 says.1, name_sound line alignment (token_text line alignment) told.1.0 refl)
query_sound line (written_gaps w) tree clean all says =
    subst IsQuery (sym says.2) (query_sound line w says.0 clean (AreToldOf-append line (query_lexemes w) (mark kinds.RightParen ∷ []) all.1.1).0 says.1)

pub removal_sound : (line : List ℕ) (w : Option ConditionSyntax) (tree : Option ConditionTree) → IsTrue (is_text line) → AreToldOf line (removal_lexemes w) → SaysRemoval line w tree → IsRemovalCondition tree
removal_sound line None tree clean all says = subst IsRemovalCondition (sym says) tt
removal_sound line (Some w) tree clean all says = subst IsRemovalCondition (sym says.2) (condition_sound line w says.0 clean all.1 says.1)
