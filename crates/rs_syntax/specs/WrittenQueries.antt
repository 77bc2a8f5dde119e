-- Queries and conditions as a line writes them, and what they say.
use Rattle.std.specs.Prelude.{◌≡◌, ℕ, List, [], ◌∷◌, ◌++◌, map, Option, Some, None}
use Rattle.rs_methods.specs.Position.{PositionExpression}
use Rattle.rs_value.specs.declared.comparison.Comparison.{Comparison}
use Rattle.rs_value.specs.declared.comparison.Comparison.TheVariants as comparisons
use Rattle.rs_value.specs.Row.{Datum}
use Rattle.rs_grammar.specs.declared.kind.TokenKind.{TokenKind}
use Rattle.rs_grammar.specs.declared.kind.TokenKind.TheVariants as kinds
use Rattle.rs_lexer.specs.declared.token.Token.{Token}
use Rattle.rs_lexer.specs.Lexis.{token_text}
use Rattle.rs_syntax.specs.declared.written.WrittenValue.TheVariants as written_values
use Rattle.rs_syntax.specs.declared.written.WrittenWindow.{WrittenWindow}
use Rattle.rs_syntax.specs.declared.written.WrittenWindow.TheVariants as written_windows
use Rattle.rs_syntax.specs.declared.written.WrittenOperand.{WrittenOperand}
use Rattle.rs_syntax.specs.declared.written.WrittenOperand.TheVariants as written_operands
use Rattle.rs_syntax.specs.declared.written.PairOperator.{PairOperator}
use Rattle.rs_syntax.specs.declared.written.PairOperator.TheVariants as pair_operators
use Rattle.rs_syntax.specs.Tree.{WindowTree, whole_route, part_of_route, OperandTree, column_named, written_value, ConditionTree, compare, is_null, is_not_null, negated, bracketed, both, either, QueryTree, named, filtered, dissolved, renamed, overlaid, covered, merged, subtracted, windowed, transformed, gapped}
use Rattle.rs_syntax.specs.WrittenParts.{Lexeme, mark, told, span_lexemes, value_lexemes, name_lexemes, list_lexemes, SaysDatum, SaysPosition}

-- A condition whose names, numbers and texts are still tokens of the line: parts between which OR stands, each of
-- parts between which AND stands.
mutual
  pub data AtomSyntax : Type 0 where
    written_comparison : Token → Comparison → WrittenOperand → AtomSyntax
    written_null : Token → AtomSyntax
    written_not_null : Token → AtomSyntax
    written_negation : ConditionSyntax → AtomSyntax
    written_bracket : ConditionSyntax → AtomSyntax

  pub data ConjunctionSyntax : Type 0 where
    last_atom : AtomSyntax → ConjunctionSyntax
    and_then : AtomSyntax → ConjunctionSyntax → ConjunctionSyntax

  pub data ConditionSyntax : Type 0 where
    last_conjunction : ConjunctionSyntax → ConditionSyntax
    or_else : ConjunctionSyntax → ConditionSyntax → ConditionSyntax

-- a query whose names, numbers and texts are still tokens of the line
pub data QuerySyntax : Type 0 where
  written_name : Token → QuerySyntax
  written_where : QuerySyntax → ConditionSyntax → QuerySyntax
  written_dissolve : QuerySyntax → List Token → QuerySyntax
  written_rename : QuerySyntax → Token → Token → QuerySyntax  -- the column's name, its new name
  written_pair : PairOperator → QuerySyntax → QuerySyntax → QuerySyntax
  written_window : QuerySyntax → WrittenWindow → QuerySyntax
  written_transform : QuerySyntax → Token → QuerySyntax  -- the alignment's name
  written_gaps : QuerySyntax → QuerySyntax

abbrev pub window_lexemes : WrittenWindow → List Lexeme
window_lexemes (written_windows.Whole route) = told kinds.Name route ∷ []
window_lexemes (written_windows.Part route from to) = told kinds.Name route ∷ mark kinds.From ∷ span_lexemes from to

-- the symbol of a comparison
abbrev pub comparison_kind : Comparison → TokenKind
comparison_kind comparisons.Equal = kinds.Equal
comparison_kind comparisons.Unequal = kinds.Unequal
comparison_kind comparisons.Less = kinds.Less
comparison_kind comparisons.LessOrEqual = kinds.LessOrEqual
comparison_kind comparisons.Greater = kinds.Greater
comparison_kind comparisons.GreaterOrEqual = kinds.GreaterOrEqual

abbrev pub comparison_lexemes : Comparison → List Lexeme
comparison_lexemes comparison = mark (comparison_kind comparison) ∷ []

abbrev pub operand_lexemes : WrittenOperand → List Lexeme
operand_lexemes (written_operands.Column name) = name_lexemes name
operand_lexemes (written_operands.Whole is_negative digits) = value_lexemes (written_values.Whole is_negative digits)
operand_lexemes (written_operands.Quoted quoted) = value_lexemes (written_values.Quoted quoted)

abbrev mutual
  pub atom_lexemes : AtomSyntax → List Lexeme
  atom_lexemes (written_comparison name comparison operand) = told kinds.Name name ∷ (comparison_lexemes comparison ++ operand_lexemes operand)
  atom_lexemes (written_null name) = told kinds.Name name ∷ mark kinds.Is ∷ mark kinds.Null ∷ []
  atom_lexemes (written_not_null name) = told kinds.Name name ∷ mark kinds.Is ∷ mark kinds.Not ∷ mark kinds.Null ∷ []
  atom_lexemes (written_negation condition) = mark kinds.Not ∷ mark kinds.LeftParen ∷ (condition_lexemes condition ++ mark kinds.RightParen ∷ [])
  atom_lexemes (written_bracket condition) = mark kinds.LeftParen ∷ (condition_lexemes condition ++ mark kinds.RightParen ∷ [])

  pub conjunction_lexemes : ConjunctionSyntax → List Lexeme
  conjunction_lexemes (last_atom atom) = atom_lexemes atom
  conjunction_lexemes (and_then atom others) = atom_lexemes atom ++ mark kinds.And ∷ conjunction_lexemes others

  pub condition_lexemes : ConditionSyntax → List Lexeme
  condition_lexemes (last_conjunction conjunction) = conjunction_lexemes conjunction
  condition_lexemes (or_else conjunction others) = conjunction_lexemes conjunction ++ mark kinds.Or ∷ condition_lexemes others

-- names in brackets, perhaps none
abbrev pub bracketed_names_lexemes : List Token → List Lexeme
bracketed_names_lexemes names = mark kinds.LeftParen ∷ (list_lexemes kinds.Comma name_lexemes names ++ mark kinds.RightParen ∷ [])

-- the word before two queries
abbrev pub pair_kind : PairOperator → TokenKind
pair_kind pair_operators.Overlay = kinds.Overlay
pair_kind pair_operators.Cover = kinds.Cover
pair_kind pair_operators.Merge = kinds.Merge
pair_kind pair_operators.Minus = kinds.Minus

-- a query in brackets, and what is after it in them
abbrev pub operator_lexemes : TokenKind → List Lexeme → List Lexeme → List Lexeme
operator_lexemes kind query others = mark kind ∷ mark kinds.LeftParen ∷ (query ++ mark kinds.Comma ∷ (others ++ mark kinds.RightParen ∷ []))

abbrev pub query_lexemes : QuerySyntax → List Lexeme
query_lexemes (written_name name) = name_lexemes name
query_lexemes (written_where query condition) = operator_lexemes kinds.Where (query_lexemes query) (condition_lexemes condition)
query_lexemes (written_dissolve query names) = operator_lexemes kinds.Dissolve (query_lexemes query) (bracketed_names_lexemes names)
query_lexemes (written_rename query from to) = operator_lexemes kinds.Rename (query_lexemes query) (told kinds.Name from ∷ mark kinds.To ∷ told kinds.Name to ∷ [])
query_lexemes (written_pair operator left right) = operator_lexemes (pair_kind operator) (query_lexemes left) (query_lexemes right)
query_lexemes (written_window query window) = operator_lexemes kinds.Window (query_lexemes query) (window_lexemes window)
query_lexemes (written_transform query alignment) = operator_lexemes kinds.Transform (query_lexemes query) (name_lexemes alignment)
query_lexemes (written_gaps query) = mark kinds.Gaps ∷ mark kinds.LeftParen ∷ (query_lexemes query ++ mark kinds.RightParen ∷ [])

-- which rows REMOVE takes, where the line says it
abbrev pub removal_lexemes : Option ConditionSyntax → List Lexeme
removal_lexemes None = []
removal_lexemes (Some condition) = mark kinds.Where ∷ condition_lexemes condition

abbrev pub SaysWindow : List ℕ → WrittenWindow → WindowTree → Type 0
SaysWindow line (written_windows.Whole route) tree = tree ≡ whole_route (token_text line route)
SaysWindow line (written_windows.Part route from to) tree =
    (first : PositionExpression) × (second : PositionExpression) × SaysPosition line from first × SaysPosition line to second
    × (tree ≡ part_of_route (token_text line route) first second)

abbrev pub SaysOperand : List ℕ → WrittenOperand → OperandTree → Type 0
SaysOperand line (written_operands.Column name) tree = tree ≡ column_named (token_text line name)
SaysOperand line (written_operands.Whole is_negative digits) tree =
    (datum : Datum) × SaysDatum line (written_values.Whole is_negative digits) datum × (tree ≡ written_value datum)
SaysOperand line (written_operands.Quoted quoted) tree =
    (datum : Datum) × SaysDatum line (written_values.Quoted quoted) datum × (tree ≡ written_value datum)

abbrev mutual
  pub SaysAtom : List ℕ → AtomSyntax → ConditionTree → Type 0
  SaysAtom line (written_comparison name comparison written) tree =
      (operand : OperandTree) × SaysOperand line written operand × (tree ≡ compare (token_text line name) comparison operand)
  SaysAtom line (written_null name) tree = tree ≡ is_null (token_text line name)
  SaysAtom line (written_not_null name) tree = tree ≡ is_not_null (token_text line name)
  SaysAtom line (written_negation written) tree = (condition : ConditionTree) × SaysCondition line written condition × (tree ≡ negated condition)
  SaysAtom line (written_bracket written) tree = (condition : ConditionTree) × SaysCondition line written condition × (tree ≡ bracketed condition)

  pub SaysConjunction : List ℕ → ConjunctionSyntax → ConditionTree → Type 0
  SaysConjunction line (last_atom atom) tree = SaysAtom line atom tree
  SaysConjunction line (and_then atom others) tree =
      (first : ConditionTree) × (second : ConditionTree) × SaysAtom line atom first × SaysConjunction line others second × (tree ≡ both first second)

  pub SaysCondition : List ℕ → ConditionSyntax → ConditionTree → Type 0
  SaysCondition line (last_conjunction conjunction) tree = SaysConjunction line conjunction tree
  SaysCondition line (or_else conjunction others) tree =
      (first : ConditionTree) × (second : ConditionTree) × SaysConjunction line conjunction first × SaysCondition line others second
      × (tree ≡ either first second)

-- two queries under an operator
abbrev pub paired : PairOperator → QueryTree → QueryTree → QueryTree
paired pair_operators.Overlay left right = overlaid left right
paired pair_operators.Cover left right = covered left right
paired pair_operators.Merge left right = merged left right
paired pair_operators.Minus left right = subtracted left right

abbrev pub SaysQuery : List ℕ → QuerySyntax → QueryTree → Type 0
SaysQuery line (written_name name) tree = tree ≡ named (token_text line name)
SaysQuery line (written_where written wanted) tree =
    (query : QueryTree) × (condition : ConditionTree) × SaysQuery line written query × SaysCondition line wanted condition
    × (tree ≡ filtered query condition)
SaysQuery line (written_dissolve written names) tree =
    (query : QueryTree) × SaysQuery line written query × (tree ≡ dissolved query (map (token_text line) names))
SaysQuery line (written_rename written from to) tree =
    (query : QueryTree) × SaysQuery line written query × (tree ≡ renamed query (token_text line from) (token_text line to))
SaysQuery line (written_pair operator first second) tree =
    (left : QueryTree) × (right : QueryTree) × SaysQuery line first left × SaysQuery line second right × (tree ≡ paired operator left right)
SaysQuery line (written_window written place) tree =
    (query : QueryTree) × (window : WindowTree) × SaysQuery line written query × SaysWindow line place window
    × (tree ≡ windowed query window)
SaysQuery line (written_transform written alignment) tree =
    (query : QueryTree) × SaysQuery line written query × (tree ≡ transformed query (token_text line alignment))
SaysQuery line (written_gaps written) tree = (query : QueryTree) × SaysQuery line written query × (tree ≡ gapped query)

-- all rows where no condition is written
abbrev pub SaysRemoval : List ℕ → Option ConditionSyntax → Option ConditionTree → Type 0
SaysRemoval line None tree = tree ≡ None
SaysRemoval line (Some written) tree = (condition : ConditionTree) × SaysCondition line written condition × (tree ≡ Some condition)
