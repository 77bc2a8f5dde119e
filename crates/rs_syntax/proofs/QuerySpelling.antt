-- What is spelled says how it is written: conditions and queries.
use Rattle.std.proofs.Common.{◌≡◌, true, false, List, [], ◌∷◌, ◌++◌, Option, Some, None, refl, sym, ap, ◌∙◌, append_assoc, append-nil}
use Rattle.rs_grammar.specs.declared.kind.TokenKind.{TokenKind}
use Rattle.rs_grammar.specs.declared.kind.TokenKind.TheVariants as kinds
use Rattle.rs_value.specs.declared.comparison.Comparison.{Comparison}
use Rattle.rs_value.specs.declared.comparison.Comparison.TheVariants as comparisons
use Rattle.rs_lexer.specs.declared.token.Token.{Token}
use Rattle.rs_syntax.specs.declared.written.WrittenWindow.{WrittenWindow}
use Rattle.rs_syntax.specs.declared.written.WrittenWindow.TheVariants as written_windows
use Rattle.rs_syntax.specs.declared.written.WrittenOperand.{WrittenOperand}
use Rattle.rs_syntax.specs.declared.written.WrittenOperand.TheVariants as written_operands
use Rattle.rs_syntax.specs.declared.written.PairOperator.{PairOperator}
use Rattle.rs_syntax.specs.declared.written.PairOperator.TheVariants as pair_operators
use Rattle.rs_syntax.specs.WrittenParts.{Lexeme, mark, told, span_lexemes, name_lexemes, list_lexemes}
use Rattle.rs_syntax.specs.WrittenQueries.{AtomSyntax, written_comparison, written_null, written_not_null, written_negation, written_bracket, ConjunctionSyntax, last_atom, and_then, ConditionSyntax, last_conjunction, or_else, QuerySyntax, written_name, written_where, written_dissolve, written_rename, written_pair, written_window, written_transform, written_gaps, window_lexemes, comparison_kind, operand_lexemes, atom_lexemes, conjunction_lexemes, condition_lexemes, bracketed_names_lexemes, pair_kind, operator_lexemes, query_lexemes, removal_lexemes}
use Rattle.rs_syntax.proofs.SpellingLaws.{Same, begins_with_sign, span_same, names_same}

-- the tokens don't begin with the mark
abbrev pub Ends : TokenKind → List Lexeme → Type 0
Ends kind tokens = (others : List Lexeme) → tokens ≡ mark kind ∷ others → ⊥

comparison_of : TokenKind → Option Comparison
comparison_of kinds.Equal = Some comparisons.Equal
comparison_of kinds.Unequal = Some comparisons.Unequal
comparison_of kinds.Less = Some comparisons.Less
comparison_of kinds.LessOrEqual = Some comparisons.LessOrEqual
comparison_of kinds.Greater = Some comparisons.Greater
comparison_of kinds.GreaterOrEqual = Some comparisons.GreaterOrEqual
comparison_of _ = None

of_comparison : (c : Comparison) → comparison_of (comparison_kind c) ≡ Some c
unfolding comparison_of
of_comparison comparisons.Equal = refl
of_comparison comparisons.Unequal = refl
of_comparison comparisons.Less = refl
of_comparison comparisons.LessOrEqual = refl
of_comparison comparisons.Greater = refl
of_comparison comparisons.GreaterOrEqual = refl

comparison_same : (c d : Comparison) → comparison_kind c ≡ comparison_kind d → c ≡ d
comparison_same c d e = let some : Some c ≡ Some d = sym (of_comparison c) ∙ ap comparison_of e ∙ of_comparison d in cc

comparison_is_not_is : (c : Comparison) → comparison_kind c ≡ kinds.Is → ⊥
unfolding comparison_of
comparison_is_not_is c e = let none : Some c ≡ None = sym (of_comparison c) ∙ ap comparison_of e in cc

operator_of : TokenKind → Option PairOperator
operator_of kinds.Overlay = Some pair_operators.Overlay
operator_of kinds.Cover = Some pair_operators.Cover
operator_of kinds.Merge = Some pair_operators.Merge
operator_of kinds.Minus = Some pair_operators.Minus
operator_of _ = None

of_operator : (o : PairOperator) → operator_of (pair_kind o) ≡ Some o
unfolding operator_of
of_operator pair_operators.Overlay = refl
of_operator pair_operators.Cover = refl
of_operator pair_operators.Merge = refl
of_operator pair_operators.Minus = refl

operator_same : (o p : PairOperator) → pair_kind o ≡ pair_kind p → o ≡ p
operator_same o p e = let some : Some o ≡ Some p = sym (of_operator o) ∙ ap operator_of e ∙ of_operator p in cc

not_where : (o : PairOperator) → pair_kind o ≡ kinds.Where → ⊥
unfolding operator_of
not_where o e = let none : Some o ≡ None = sym (of_operator o) ∙ ap operator_of e in cc

not_dissolve : (o : PairOperator) → pair_kind o ≡ kinds.Dissolve → ⊥
unfolding operator_of
not_dissolve o e = let none : Some o ≡ None = sym (of_operator o) ∙ ap operator_of e in cc

not_rename : (o : PairOperator) → pair_kind o ≡ kinds.Rename → ⊥
unfolding operator_of
not_rename o e = let none : Some o ≡ None = sym (of_operator o) ∙ ap operator_of e in cc

not_window : (o : PairOperator) → pair_kind o ≡ kinds.Window → ⊥
unfolding operator_of
not_window o e = let none : Some o ≡ None = sym (of_operator o) ∙ ap operator_of e in cc

not_transform : (o : PairOperator) → pair_kind o ≡ kinds.Transform → ⊥
unfolding operator_of
not_transform o e = let none : Some o ≡ None = sym (of_operator o) ∙ ap operator_of e in cc

not_gaps : (o : PairOperator) → pair_kind o ≡ kinds.Gaps → ⊥
unfolding operator_of
not_gaps o e = let none : Some o ≡ None = sym (of_operator o) ∙ ap operator_of e in cc

operand_same : (x y : WrittenOperand) (m n : List Lexeme) → Same operand_lexemes x y m n
operand_same (written_operands.Column a) (written_operands.Column b) m n e = (cc, cc)
operand_same (written_operands.Column a) (written_operands.Whole true b) m n e = absurd cc
operand_same (written_operands.Column a) (written_operands.Whole false b) m n e = absurd cc
operand_same (written_operands.Column a) (written_operands.Quoted b) m n e = absurd cc
operand_same (written_operands.Whole true a) (written_operands.Column b) m n e = absurd cc
operand_same (written_operands.Whole true a) (written_operands.Whole true b) m n e = (cc, cc)
operand_same (written_operands.Whole true a) (written_operands.Whole false b) m n e = absurd cc
operand_same (written_operands.Whole true a) (written_operands.Quoted b) m n e = absurd cc
operand_same (written_operands.Whole false a) (written_operands.Column b) m n e = absurd cc
operand_same (written_operands.Whole false a) (written_operands.Whole true b) m n e = absurd cc
operand_same (written_operands.Whole false a) (written_operands.Whole false b) m n e = (cc, cc)
operand_same (written_operands.Whole false a) (written_operands.Quoted b) m n e = absurd cc
operand_same (written_operands.Quoted a) (written_operands.Column b) m n e = absurd cc
operand_same (written_operands.Quoted a) (written_operands.Whole true b) m n e = absurd cc
operand_same (written_operands.Quoted a) (written_operands.Whole false b) m n e = absurd cc
operand_same (written_operands.Quoted a) (written_operands.Quoted b) m n e = (cc, cc)

-- A window, after which neither FROM nor a sign of a position is next.
pub window_same : (x y : WrittenWindow) (m n : List Lexeme) → Ends kinds.From m → Ends kinds.From n → begins_with_sign m ≡ false → begins_with_sign n ≡ false → Same window_lexemes x y m n
window_same (written_windows.Whole a) (written_windows.Whole b) m n p q r s e = (cc, cc)
window_same (written_windows.Whole a) (written_windows.Part b f t) m n p q r s e =
    let rest : m ≡ mark kinds.From ∷ (span_lexemes f t ++ n) = cc in absurd (p (span_lexemes f t ++ n) rest)
window_same (written_windows.Part a f t) (written_windows.Whole b) m n p q r s e =
    let rest : n ≡ mark kinds.From ∷ (span_lexemes f t ++ m) = cc in absurd (q (span_lexemes f t ++ m) rest)
window_same (written_windows.Part a f t) (written_windows.Part b g u) m n p q r s e =
    let names : a ≡ b = cc in
    let rest : span_lexemes f t ++ m ≡ span_lexemes g u ++ n = cc in
    let spans = span_same f t g u m n r s rest in
    let from : f ≡ g = spans.0 in
    let to : t ≡ u = spans.1 in
    (cc, spans.2)

-- A condition in brackets, given that the condition is told.
abbrev SameCondition : ConditionSyntax → Type 0
SameCondition c = (d : ConditionSyntax) (m n : List Lexeme) → Ends kinds.And m → Ends kinds.Or m → Ends kinds.And n → Ends kinds.Or n → Same condition_lexemes c d m n

closed : (c d : ConditionSyntax) (m n : List Lexeme) → SameCondition c
    → (condition_lexemes c ++ mark kinds.RightParen ∷ []) ++ m ≡ (condition_lexemes d ++ mark kinds.RightParen ∷ []) ++ n → (c ≡ d) × (m ≡ n)
closed c d m n same e =
    let p = same d (mark kinds.RightParen ∷ m) (mark kinds.RightParen ∷ n) (λ others h. cc) (λ others h. cc) (λ others h. cc) (λ others h. cc)
    (sym (append_assoc (condition_lexemes c) (mark kinds.RightParen ∷ []) m) ∙ e ∙ append_assoc (condition_lexemes d) (mark kinds.RightParen ∷ []) n) in
    let behind : mark kinds.RightParen ∷ m ≡ mark kinds.RightParen ∷ n = p.1 in
    (p.0, cc)

comparison_told : (a : Token) (c : Comparison) (x : WrittenOperand) (y : AtomSyntax) (m n : List Lexeme) → Same atom_lexemes (written_comparison a c x) y m n
comparison_told a c x (written_comparison b d y) m n e =
    let names : a ≡ b = cc in
    let words : comparison_kind c ≡ comparison_kind d = cc in
    let rest : operand_lexemes x ++ m ≡ operand_lexemes y ++ n = cc in
    let comparisons_same = comparison_same c d words in
    let operands = operand_same x y m n rest in
    let operand : x ≡ y = operands.0 in
    (cc, operands.1)
comparison_told a c x (written_null b) m n e = let words : comparison_kind c ≡ kinds.Is = cc in absurd (comparison_is_not_is c words)
comparison_told a c x (written_not_null b) m n e = let words : comparison_kind c ≡ kinds.Is = cc in absurd (comparison_is_not_is c words)
comparison_told a c x (written_negation d) m n e = absurd cc
comparison_told a c x (written_bracket d) m n e = absurd cc

null_told : (a : Token) (y : AtomSyntax) (m n : List Lexeme) → Same atom_lexemes (written_null a) y m n
null_told a (written_comparison b d y) m n e = let words : comparison_kind d ≡ kinds.Is = cc in absurd (comparison_is_not_is d words)
null_told a (written_null b) m n e = (cc, cc)
null_told a _ m n e = absurd cc

not_null_told : (a : Token) (y : AtomSyntax) (m n : List Lexeme) → Same atom_lexemes (written_not_null a) y m n
not_null_told a (written_comparison b d y) m n e = let words : comparison_kind d ≡ kinds.Is = cc in absurd (comparison_is_not_is d words)
not_null_told a (written_not_null b) m n e = (cc, cc)
not_null_told a _ m n e = absurd cc

negation_told : (c : ConditionSyntax) (y : AtomSyntax) (m n : List Lexeme) → SameCondition c → Same atom_lexemes (written_negation c) y m n
negation_told c (written_negation d) m n same e =
    let rest : (condition_lexemes c ++ mark kinds.RightParen ∷ []) ++ m ≡ (condition_lexemes d ++ mark kinds.RightParen ∷ []) ++ n = cc in
    let p = closed c d m n same rest in
    (ap written_negation p.0, p.1)
negation_told c _ m n same e = absurd cc

bracket_told : (c : ConditionSyntax) (y : AtomSyntax) (m n : List Lexeme) → SameCondition c → Same atom_lexemes (written_bracket c) y m n
bracket_told c (written_bracket d) m n same e =
    let rest : (condition_lexemes c ++ mark kinds.RightParen ∷ []) ++ m ≡ (condition_lexemes d ++ mark kinds.RightParen ∷ []) ++ n = cc in
    let p = closed c d m n same rest in
    (ap written_bracket p.0, p.1)
bracket_told c _ m n same e = absurd cc

-- Chains, given that their parts are told.
abbrev SameAtom : AtomSyntax → Type 0
SameAtom x = (y : AtomSyntax) (m n : List Lexeme) → Same atom_lexemes x y m n

abbrev SameConjunction : ConjunctionSyntax → Type 0
SameConjunction c = (d : ConjunctionSyntax) (m n : List Lexeme) → Ends kinds.And m → Ends kinds.And n → Same conjunction_lexemes c d m n

last_atom_told : (x : AtomSyntax) (d : ConjunctionSyntax) (m n : List Lexeme) → SameAtom x → Ends kinds.And m → Ends kinds.And n → Same conjunction_lexemes (last_atom x) d m n
last_atom_told x (last_atom y) m n same p q e = let parts = same y m n e in (ap last_atom parts.0, parts.1)
last_atom_told x (and_then y d) m n same p q e =
    let parts = same y m (mark kinds.And ∷ (conjunction_lexemes d ++ n)) (e ∙ append_assoc (atom_lexemes y) (mark kinds.And ∷ conjunction_lexemes d) n) in
    absurd (p (conjunction_lexemes d ++ n) parts.1)

and_then_told : (x : AtomSyntax) (c d : ConjunctionSyntax) (m n : List Lexeme) → SameAtom x → SameConjunction c → Ends kinds.And m → Ends kinds.And n → Same conjunction_lexemes (and_then x c) d m n
and_then_told x c (last_atom y) m n same others p q e =
    let parts = same y (mark kinds.And ∷ (conjunction_lexemes c ++ m)) n (sym (append_assoc (atom_lexemes x) (mark kinds.And ∷ conjunction_lexemes c) m) ∙ e) in
    absurd (q (conjunction_lexemes c ++ m) (sym parts.1))
and_then_told x c (and_then y d) m n same others p q e =
    let parts = same y (mark kinds.And ∷ (conjunction_lexemes c ++ m)) (mark kinds.And ∷ (conjunction_lexemes d ++ n))
    (sym (append_assoc (atom_lexemes x) (mark kinds.And ∷ conjunction_lexemes c) m) ∙ e ∙ append_assoc (atom_lexemes y) (mark kinds.And ∷ conjunction_lexemes d) n) in
    let behind : mark kinds.And ∷ (conjunction_lexemes c ++ m) ≡ mark kinds.And ∷ (conjunction_lexemes d ++ n) = parts.1 in
    let rest = others d m n p q cc in
    (ap (λ z. and_then z c) parts.0 ∙ ap (and_then y) rest.0, rest.1)

last_conjunction_told : (x : ConjunctionSyntax) (d : ConditionSyntax) (m n : List Lexeme) → SameConjunction x → Ends kinds.And m → Ends kinds.Or m → Ends kinds.And n → Ends kinds.Or n → Same condition_lexemes (last_conjunction x) d m n
last_conjunction_told x (last_conjunction y) m n same p q r s e = let parts = same y m n p r e in (ap last_conjunction parts.0, parts.1)
last_conjunction_told x (or_else y d) m n same p q r s e =
    let parts = same y m (mark kinds.Or ∷ (condition_lexemes d ++ n)) p (λ others h. cc) (e ∙ append_assoc (conjunction_lexemes y) (mark kinds.Or ∷ condition_lexemes d) n) in
    absurd (q (condition_lexemes d ++ n) parts.1)

or_else_told : (x : ConjunctionSyntax) (c d : ConditionSyntax) (m n : List Lexeme) → SameConjunction x → SameCondition c → Ends kinds.And m → Ends kinds.Or m → Ends kinds.And n → Ends kinds.Or n → Same condition_lexemes (or_else x c) d m n
or_else_told x c (last_conjunction y) m n same others p q r s e =
    let parts = same y (mark kinds.Or ∷ (condition_lexemes c ++ m)) n (λ more h. cc) r (sym (append_assoc (conjunction_lexemes x) (mark kinds.Or ∷ condition_lexemes c) m) ∙ e) in
    absurd (s (condition_lexemes c ++ m) (sym parts.1))
or_else_told x c (or_else y d) m n same others p q r s e =
    let parts = same y (mark kinds.Or ∷ (condition_lexemes c ++ m)) (mark kinds.Or ∷ (condition_lexemes d ++ n)) (λ more h. cc) (λ more h. cc)
    (sym (append_assoc (conjunction_lexemes x) (mark kinds.Or ∷ condition_lexemes c) m) ∙ e ∙ append_assoc (conjunction_lexemes y) (mark kinds.Or ∷ condition_lexemes d) n) in
    let behind : mark kinds.Or ∷ (condition_lexemes c ++ m) ≡ mark kinds.Or ∷ (condition_lexemes d ++ n) = parts.1 in
    let rest = others d m n p q r s cc in
    (ap (λ z. or_else z c) parts.0 ∙ ap (or_else y) rest.0, rest.1)

mutual
  atom_same : (x y : AtomSyntax) (m n : List Lexeme) → Same atom_lexemes x y m n
  atom_same (written_comparison a c x) = comparison_told a c x
  atom_same (written_null a) = null_told a
  atom_same (written_not_null a) = not_null_told a
  atom_same (written_negation c) = λ y m n. negation_told c y m n (condition_same c)
  atom_same (written_bracket c) = λ y m n. bracket_told c y m n (condition_same c)

  conjunction_same : (c : ConjunctionSyntax) → SameConjunction c
  conjunction_same (last_atom x) = λ d m n. last_atom_told x d m n (atom_same x)
  conjunction_same (and_then x c) = λ d m n. and_then_told x c d m n (atom_same x) (conjunction_same c)

  pub condition_same : (c : ConditionSyntax) → SameCondition c
  condition_same (last_conjunction x) = λ d m n. last_conjunction_told x d m n (conjunction_same x)
  condition_same (or_else x c) = λ d m n. or_else_told x c d m n (conjunction_same x) (condition_same c)

-- Queries, the first operand given as told.
abbrev SameQuery : QuerySyntax → Type 0
SameQuery x = (y : QuerySyntax) (m n : List Lexeme) → Same query_lexemes x y m n

operator_append : (kind : TokenKind) (query others m : List Lexeme) → operator_lexemes kind query others ++ m ≡ mark kind ∷ mark kinds.LeftParen ∷ (query ++ mark kinds.Comma ∷ (others ++ mark kinds.RightParen ∷ m))
operator_append kind query others m =
    ap (λ ps. mark kind ∷ mark kinds.LeftParen ∷ ps)
    (append_assoc query (mark kinds.Comma ∷ (others ++ mark kinds.RightParen ∷ [])) m ∙ ap (λ ps. query ++ mark kinds.Comma ∷ ps) (append_assoc others (mark kinds.RightParen ∷ []) m))

-- two queries of one operator have the first operand in common, and what is after it
first_operand : (k l : TokenKind) (x y : QuerySyntax) (o p m n : List Lexeme) → SameQuery x → operator_lexemes k (query_lexemes x) o ++ m ≡ operator_lexemes l (query_lexemes y) p ++ n
    → (x ≡ y) × (o ++ mark kinds.RightParen ∷ m ≡ p ++ mark kinds.RightParen ∷ n)
first_operand k l x y o p m n same e =
    let whole : mark k ∷ mark kinds.LeftParen ∷ (query_lexemes x ++ mark kinds.Comma ∷ (o ++ mark kinds.RightParen ∷ m)) ≡ mark l ∷ mark kinds.LeftParen ∷ (query_lexemes y ++ mark kinds.Comma ∷ (p ++ mark kinds.RightParen ∷ n))
    = sym (operator_append k (query_lexemes x) o m) ∙ e ∙ operator_append l (query_lexemes y) p n in
    let rest : query_lexemes x ++ mark kinds.Comma ∷ (o ++ mark kinds.RightParen ∷ m) ≡ query_lexemes y ++ mark kinds.Comma ∷ (p ++ mark kinds.RightParen ∷ n) = cc in
    let parts = same y (mark kinds.Comma ∷ (o ++ mark kinds.RightParen ∷ m)) (mark kinds.Comma ∷ (p ++ mark kinds.RightParen ∷ n)) rest in
    let behind : mark kinds.Comma ∷ (o ++ mark kinds.RightParen ∷ m) ≡ mark kinds.Comma ∷ (p ++ mark kinds.RightParen ∷ n) = parts.1 in
    (parts.0, cc)

name_told : (a : Token) (y : QuerySyntax) (m n : List Lexeme) → Same query_lexemes (written_name a) y m n
name_told a (written_name b) m n e = (cc, cc)
name_told a _ m n e = absurd cc

where_told : (x : QuerySyntax) (c : ConditionSyntax) (y : QuerySyntax) (m n : List Lexeme) → SameQuery x → Same query_lexemes (written_where x c) y m n
where_told x c (written_where y d) m n same e =
    let p = first_operand kinds.Where kinds.Where x y (condition_lexemes c) (condition_lexemes d) m n same e in
    let parts = condition_same c d (mark kinds.RightParen ∷ m) (mark kinds.RightParen ∷ n) (λ others h. cc) (λ others h. cc) (λ others h. cc) (λ others h. cc) p.1 in
    let behind : mark kinds.RightParen ∷ m ≡ mark kinds.RightParen ∷ n = parts.1 in
    (ap (λ z. written_where z c) p.0 ∙ ap (written_where y) parts.0, cc)
where_told x c (written_pair o a b) m n same e = let words : pair_kind o ≡ kinds.Where = cc in absurd (not_where o words)
where_told x c _ m n same e = absurd cc

dissolve_told : (x : QuerySyntax) (c : List Token) (y : QuerySyntax) (m n : List Lexeme) → SameQuery x → Same query_lexemes (written_dissolve x c) y m n
dissolve_told x c (written_dissolve y d) m n same e =
    let p = first_operand kinds.Dissolve kinds.Dissolve x y (bracketed_names_lexemes c) (bracketed_names_lexemes d) m n same e in
    let inside : (list_lexemes kinds.Comma name_lexemes c ++ mark kinds.RightParen ∷ []) ++ mark kinds.RightParen ∷ m ≡ (list_lexemes kinds.Comma name_lexemes d ++ mark kinds.RightParen ∷ []) ++ mark kinds.RightParen ∷ n = let whole = p.1 in cc in
    let parts = names_same c d (mark kinds.RightParen ∷ m) (mark kinds.RightParen ∷ n)
    (sym (append_assoc (list_lexemes kinds.Comma name_lexemes c) (mark kinds.RightParen ∷ []) (mark kinds.RightParen ∷ m)) ∙ inside ∙ append_assoc (list_lexemes kinds.Comma name_lexemes d) (mark kinds.RightParen ∷ []) (mark kinds.RightParen ∷ n)) in
    let behind : mark kinds.RightParen ∷ m ≡ mark kinds.RightParen ∷ n = parts.1 in
    (ap (λ z. written_dissolve z c) p.0 ∙ ap (written_dissolve y) parts.0, cc)
dissolve_told x c (written_pair o a b) m n same e = let words : pair_kind o ≡ kinds.Dissolve = cc in absurd (not_dissolve o words)
dissolve_told x c _ m n same e = absurd cc

rename_told : (x : QuerySyntax) (a b : Token) (y : QuerySyntax) (m n : List Lexeme) → SameQuery x → Same query_lexemes (written_rename x a b) y m n
rename_told x a b (written_rename y c d) m n same e =
    let p = first_operand kinds.Rename kinds.Rename x y (told kinds.Name a ∷ mark kinds.To ∷ told kinds.Name b ∷ []) (told kinds.Name c ∷ mark kinds.To ∷ told kinds.Name d ∷ []) m n same e in
    let queries : x ≡ y = p.0 in
    let rest : told kinds.Name a ∷ mark kinds.To ∷ told kinds.Name b ∷ mark kinds.RightParen ∷ m ≡ told kinds.Name c ∷ mark kinds.To ∷ told kinds.Name d ∷ mark kinds.RightParen ∷ n = p.1 in
    (cc, cc)
rename_told x a b (written_pair o c d) m n same e = let words : pair_kind o ≡ kinds.Rename = cc in absurd (not_rename o words)
rename_told x a b _ m n same e = absurd cc

pair_told : (o : PairOperator) (x z y : QuerySyntax) (m n : List Lexeme) → SameQuery x → SameQuery z → Same query_lexemes (written_pair o x z) y m n
pair_told o x z (written_name a) m n same second e = absurd cc
pair_told o x z (written_where y d) m n same second e = let words : pair_kind o ≡ kinds.Where = cc in absurd (not_where o words)
pair_told o x z (written_dissolve y d) m n same second e = let words : pair_kind o ≡ kinds.Dissolve = cc in absurd (not_dissolve o words)
pair_told o x z (written_rename y c d) m n same second e = let words : pair_kind o ≡ kinds.Rename = cc in absurd (not_rename o words)
pair_told o x z (written_window y d) m n same second e = let words : pair_kind o ≡ kinds.Window = cc in absurd (not_window o words)
pair_told o x z (written_transform y d) m n same second e = let words : pair_kind o ≡ kinds.Transform = cc in absurd (not_transform o words)
pair_told o x z (written_gaps y) m n same second e = let words : pair_kind o ≡ kinds.Gaps = cc in absurd (not_gaps o words)
pair_told o x z (written_pair l y w) m n same second e =
    let words : pair_kind o ≡ pair_kind l = cc in
    let operators = operator_same o l words in
    let p = first_operand (pair_kind o) (pair_kind l) x y (query_lexemes z) (query_lexemes w) m n same e in
    let parts = second w (mark kinds.RightParen ∷ m) (mark kinds.RightParen ∷ n) p.1 in
    let behind : mark kinds.RightParen ∷ m ≡ mark kinds.RightParen ∷ n = parts.1 in
    (ap (λ q. written_pair q x z) operators ∙ ap (λ q. written_pair l q z) p.0 ∙ ap (written_pair l y) parts.0, cc)

window_told : (x : QuerySyntax) (c : WrittenWindow) (y : QuerySyntax) (m n : List Lexeme) → SameQuery x → Same query_lexemes (written_window x c) y m n
window_told x c (written_window y d) m n same e =
    let p = first_operand kinds.Window kinds.Window x y (window_lexemes c) (window_lexemes d) m n same e in
    let parts = window_same c d (mark kinds.RightParen ∷ m) (mark kinds.RightParen ∷ n) (λ others h. cc) (λ others h. cc) refl refl p.1 in
    let behind : mark kinds.RightParen ∷ m ≡ mark kinds.RightParen ∷ n = parts.1 in
    (ap (λ z. written_window z c) p.0 ∙ ap (written_window y) parts.0, cc)
window_told x c (written_pair o a b) m n same e = let words : pair_kind o ≡ kinds.Window = cc in absurd (not_window o words)
window_told x c _ m n same e = absurd cc

transform_told : (x : QuerySyntax) (a : Token) (y : QuerySyntax) (m n : List Lexeme) → SameQuery x → Same query_lexemes (written_transform x a) y m n
transform_told x a (written_transform y b) m n same e =
    let p = first_operand kinds.Transform kinds.Transform x y (name_lexemes a) (name_lexemes b) m n same e in
    let queries : x ≡ y = p.0 in
    let rest : told kinds.Name a ∷ mark kinds.RightParen ∷ m ≡ told kinds.Name b ∷ mark kinds.RightParen ∷ n = p.1 in
    (cc, cc)
transform_told x a (written_pair o c d) m n same e = let words : pair_kind o ≡ kinds.Transform = cc in absurd (not_transform o words)
transform_told x a _ m n same e = absurd cc

gaps_told : (x y : QuerySyntax) (m n : List Lexeme) → SameQuery x → Same query_lexemes (written_gaps x) y m n
gaps_told x (written_gaps y) m n same e =
    let rest : (query_lexemes x ++ mark kinds.RightParen ∷ []) ++ m ≡ (query_lexemes y ++ mark kinds.RightParen ∷ []) ++ n = cc in
    let parts = same y (mark kinds.RightParen ∷ m) (mark kinds.RightParen ∷ n)
    (sym (append_assoc (query_lexemes x) (mark kinds.RightParen ∷ []) m) ∙ rest ∙ append_assoc (query_lexemes y) (mark kinds.RightParen ∷ []) n) in
    let behind : mark kinds.RightParen ∷ m ≡ mark kinds.RightParen ∷ n = parts.1 in
    (ap written_gaps parts.0, cc)
gaps_told x (written_pair o c d) m n same e = let words : pair_kind o ≡ kinds.Gaps = cc in absurd (not_gaps o words)
gaps_told x _ m n same e = absurd cc

pub query_same : (x : QuerySyntax) → SameQuery x
query_same (written_name a) = name_told a
query_same (written_where x c) = λ y m n. where_told x c y m n (query_same x)
query_same (written_dissolve x c) = λ y m n. dissolve_told x c y m n (query_same x)
query_same (written_rename x a b) = λ y m n. rename_told x a b y m n (query_same x)
query_same (written_pair o x z) = λ y m n. pair_told o x z y m n (query_same x) (query_same z)
query_same (written_window x c) = λ y m n. window_told x c y m n (query_same x)
query_same (written_transform x a) = λ y m n. transform_told x a y m n (query_same x)
query_same (written_gaps x) = λ y m n. gaps_told x y m n (query_same x)

-- which rows REMOVE takes, at the end of a line
pub removal_same : (x y : Option ConditionSyntax) → removal_lexemes x ≡ removal_lexemes y → x ≡ y
removal_same None None e = refl
removal_same None (Some d) e = absurd cc
removal_same (Some c) None e = absurd cc
removal_same (Some c) (Some d) e =
    let rest : condition_lexemes c ≡ condition_lexemes d = cc in
    ap Some (condition_same c d [] [] (λ others h. cc) (λ others h. cc) (λ others h. cc) (λ others h. cc) (append-nil (condition_lexemes c) ∙ rest ∙ sym (append-nil (condition_lexemes d)))).0
