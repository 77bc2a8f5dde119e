-- The tokens of a query's operands are tokens of the query.
use Rattle.std.proofs.Common.{◌≡◌, ℕ, ◌+◌, ◌≤◌, List, [], ◌∷◌, ◌++◌, length, sym, ap, ◌∙◌, subst, arith, length-append}
use Rattle.std.specs.Prelude.{Vec, Box}
use Rattle.std.specs.declared.alloc.Global.{Global}
use Rattle.rs_grammar.specs.declared.kind.TokenKind.{TokenKind}
use Rattle.rs_grammar.specs.declared.kind.TokenKind.TheVariants as kinds
use Rattle.rs_lexer.specs.declared.token.Token.{Token}
use Rattle.rs_syntax.specs.declared.written.PairOperator.{PairOperator}
use Rattle.rs_syntax.specs.declared.written.WrittenAtom.{WrittenAtom}
use Rattle.rs_syntax.specs.declared.written.WrittenQuery.{WrittenQuery}
use Rattle.rs_syntax.specs.declared.written.WrittenQuery.TheVariants as queries
use Rattle.rs_syntax.specs.declared.written.WrittenWindow.{WrittenWindow}
use Rattle.rs_refusal.specs.declared.refusal.Refusal.{Refusal}
use Rattle.rs_syntax.specs.Tree.{QueryTree}
use Rattle.rs_syntax.specs.Written.{Lexeme, mark, told, operator_lexemes, pair_kind, window_lexemes, name_lexemes, bracketed_names_lexemes, condition_lexemes, query_lexemes, QuerySyntax, written_where, written_dissolve, written_rename, written_pair, written_window, written_transform, written_gaps, SaysQuery, AreToldOf}
use Rattle.rs_syntax.specs.WrittenView.{condition_syntax, query_syntax}
use Rattle.rs_syntax.proofs.ChainLaws.{where_written, dissolve_written, rename_written, pair_written, window_written, transform_written, gaps_written}
use Rattle.rs_syntax.proofs.ToldLaws.{AreToldOf-append}
use Rattle.rs_meaning.specs.Saying.{NothingSaid}
use Rattle.rs_meaning.proofs.SayingLaws.{nothing-said}

-- an operator's word, and in brackets its operand and what is after the comma
pub record IsOperator (lexemes : List Lexeme) (kind : TokenKind) (operand others : List Lexeme) : Type 0 where
  pub spelled : lexemes ≡ operator_lexemes kind operand others

inside-told : {lexemes operand others : List Lexeme} {kind : TokenKind} (line : List ℕ) → IsOperator lexemes kind operand others → AreToldOf line lexemes
    → AreToldOf line operand × AreToldOf line (mark kinds.Comma ∷ (others ++ mark kinds.RightParen ∷ []))
inside-told {operand = operand} line whole all = AreToldOf-append line operand _ (subst (AreToldOf line) whole.spelled all).1.1

-- the operand's tokens
pub operand-told : {lexemes operand others : List Lexeme} {kind : TokenKind} (line : List ℕ) → IsOperator lexemes kind operand others → AreToldOf line lexemes → AreToldOf line operand
operand-told line whole all = (inside-told line whole all).0

-- and those after the comma
pub others-told : {lexemes operand others : List Lexeme} {kind : TokenKind} (line : List ℕ) → IsOperator lexemes kind operand others → AreToldOf line lexemes → AreToldOf line others
others-told {others = others} line whole all = (AreToldOf-append line others _ (inside-told line whole all).1.1).0

lengths : (kind : TokenKind) (operand others : List Lexeme) → length operand + length others + 1 ≤ length (operator_lexemes kind operand others)
lengths kind operand others =
    omega (arith, length-append operand (mark kinds.Comma ∷ (others ++ mark kinds.RightParen ∷ [])), length-append others (mark kinds.RightParen ∷ []))

pub operand-length : {lexemes operand others : List Lexeme} {kind : TokenKind} → IsOperator lexemes kind operand others → length operand + 1 ≤ length lexemes
operand-length {lexemes} {operand} {others} {kind} whole = let same = ap length whole.spelled in omega (arith, lengths kind operand others)

pub others-length : {lexemes operand others : List Lexeme} {kind : TokenKind} → IsOperator lexemes kind operand others → length others + 1 ≤ length lexemes
others-length {lexemes} {operand} {others} {kind} whole = let same = ap length whole.spelled in omega (arith, lengths kind operand others)

-- GAPS, and in brackets its operand alone
pub record IsGaps (lexemes operand : List Lexeme) : Type 0 where
  pub spelled : lexemes ≡ mark kinds.Gaps ∷ mark kinds.LeftParen ∷ (operand ++ mark kinds.RightParen ∷ [])

pub gaps-told : {lexemes operand : List Lexeme} (line : List ℕ) → IsGaps lexemes operand → AreToldOf line lexemes → AreToldOf line operand
gaps-told {operand = operand} line whole all = (AreToldOf-append line operand (mark kinds.RightParen ∷ []) (subst (AreToldOf line) whole.spelled all).1.1).0

pub gaps-length : {lexemes operand : List Lexeme} → IsGaps lexemes operand → length operand + 1 ≤ length lexemes
gaps-length {lexemes} {operand} whole = omega (arith, ap length whole.spelled, length-append operand (mark kinds.RightParen ∷ []))

-- How a query of each variant is spelled, its operand given by its value.
module _ (query : WrittenQuery) (operand : Box WrittenQuery Global) (inside : WrittenQuery) (same : inside ≡ operand.value) where
  pub where-whole : (wanted : Vec (Vec WrittenAtom Global) Global) → query ≡ queries.Where operand wanted
      → IsOperator (query_lexemes (query_syntax query)) kinds.Where (query_lexemes (query_syntax inside)) (condition_lexemes (condition_syntax wanted.items))
  where-whole wanted is = record {
    spelled =
        ap (λ q. query_lexemes (query_syntax q)) is ∙ ap query_lexemes (where_written operand wanted)
        ∙ ap (λ q. operator_lexemes kinds.Where (query_lexemes (query_syntax q)) (condition_lexemes (condition_syntax wanted.items))) (sym same);
  }

  pub dissolve-whole : (names : Vec Token Global) → query ≡ queries.Dissolve operand names
      → IsOperator (query_lexemes (query_syntax query)) kinds.Dissolve (query_lexemes (query_syntax inside)) (bracketed_names_lexemes names.items)
  dissolve-whole names is = record {
    spelled =
        ap (λ q. query_lexemes (query_syntax q)) is ∙ ap query_lexemes (dissolve_written operand names)
        ∙ ap (λ q. operator_lexemes kinds.Dissolve (query_lexemes (query_syntax q)) (bracketed_names_lexemes names.items)) (sym same);
  }

  pub rename-whole : (from to : Token) → query ≡ queries.Rename operand from to
      → IsOperator (query_lexemes (query_syntax query)) kinds.Rename (query_lexemes (query_syntax inside)) (told kinds.Name from ∷ mark kinds.To ∷ told kinds.Name to ∷ [])
  rename-whole from to is = record {
    spelled =
        ap (λ q. query_lexemes (query_syntax q)) is ∙ ap query_lexemes (rename_written operand from to)
        ∙ ap (λ q. operator_lexemes kinds.Rename (query_lexemes (query_syntax q)) (told kinds.Name from ∷ mark kinds.To ∷ told kinds.Name to ∷ [])) (sym same);
  }

  pub window-whole : (window : WrittenWindow) → query ≡ queries.Window operand window
      → IsOperator (query_lexemes (query_syntax query)) kinds.Window (query_lexemes (query_syntax inside)) (window_lexemes window)
  window-whole window is = record {
    spelled =
        ap (λ q. query_lexemes (query_syntax q)) is ∙ ap query_lexemes (window_written operand window)
        ∙ ap (λ q. operator_lexemes kinds.Window (query_lexemes (query_syntax q)) (window_lexemes window)) (sym same);
  }

  pub transform-whole : (alignment : Token) → query ≡ queries.Transform operand alignment
      → IsOperator (query_lexemes (query_syntax query)) kinds.Transform (query_lexemes (query_syntax inside)) (name_lexemes alignment)
  transform-whole alignment is = record {
    spelled =
        ap (λ q. query_lexemes (query_syntax q)) is ∙ ap query_lexemes (transform_written operand alignment)
        ∙ ap (λ q. operator_lexemes kinds.Transform (query_lexemes (query_syntax q)) (name_lexemes alignment)) (sym same);
  }

  pub gaps-whole : query ≡ queries.Gaps operand → IsGaps (query_lexemes (query_syntax query)) (query_lexemes (query_syntax inside))
  gaps-whole is = record {
    spelled =
        ap (λ q. query_lexemes (query_syntax q)) is ∙ ap query_lexemes (gaps_written operand)
        ∙ ap (λ q. query_lexemes (written_gaps (query_syntax q))) (sym same);
  }

  pub pair-whole : (operator : PairOperator) (second : Box WrittenQuery Global) (other : WrittenQuery) → query ≡ queries.Pair operator operand second → other ≡ second.value
      → IsOperator (query_lexemes (query_syntax query)) (pair_kind operator) (query_lexemes (query_syntax inside)) (query_lexemes (query_syntax other))
  pair-whole operator second other is also = record {
    spelled =
        ap (λ q. query_lexemes (query_syntax q)) is ∙ ap query_lexemes (pair_written operator operand second)
        ∙ ap (λ q. operator_lexemes (pair_kind operator) (query_lexemes (query_syntax q)) (query_lexemes (query_syntax second.value))) (sym same)
        ∙ ap (λ q. operator_lexemes (pair_kind operator) (query_lexemes (query_syntax inside)) (query_lexemes (query_syntax q))) (sym also);
  }

-- How a query of each variant is written, its operand given by its value.
module _ (query : WrittenQuery) (operand : Box WrittenQuery Global) (inside : WrittenQuery) (same : inside ≡ operand.value) where
  pub where-is : (wanted : Vec (Vec WrittenAtom Global) Global) (items : List (Vec WrittenAtom Global)) → query ≡ queries.Where operand wanted → items ≡ wanted.items
      → query_syntax query ≡ written_where (query_syntax inside) (condition_syntax items)
  where-is wanted items is also =
      ap query_syntax is ∙ where_written operand wanted ∙ ap (λ q. written_where (query_syntax q) (condition_syntax wanted.items)) (sym same)
      ∙ ap (λ ws. written_where (query_syntax inside) (condition_syntax ws)) (sym also)

  pub dissolve-is : (names : Vec Token Global) → query ≡ queries.Dissolve operand names → query_syntax query ≡ written_dissolve (query_syntax inside) names.items
  dissolve-is names is = ap query_syntax is ∙ dissolve_written operand names ∙ ap (λ q. written_dissolve (query_syntax q) names.items) (sym same)

  pub rename-is : (from to : Token) → query ≡ queries.Rename operand from to → query_syntax query ≡ written_rename (query_syntax inside) from to
  rename-is from to is = ap query_syntax is ∙ rename_written operand from to ∙ ap (λ q. written_rename (query_syntax q) from to) (sym same)

  pub window-is : (window : WrittenWindow) → query ≡ queries.Window operand window → query_syntax query ≡ written_window (query_syntax inside) window
  window-is window is = ap query_syntax is ∙ window_written operand window ∙ ap (λ q. written_window (query_syntax q) window) (sym same)

  pub transform-is : (alignment : Token) → query ≡ queries.Transform operand alignment → query_syntax query ≡ written_transform (query_syntax inside) alignment
  transform-is alignment is = ap query_syntax is ∙ transform_written operand alignment ∙ ap (λ q. written_transform (query_syntax q) alignment) (sym same)

  pub gaps-is : query ≡ queries.Gaps operand → query_syntax query ≡ written_gaps (query_syntax inside)
  gaps-is is = ap query_syntax is ∙ gaps_written operand ∙ ap (λ q. written_gaps (query_syntax q)) (sym same)

  pub pair-is : (operator : PairOperator) (second : Box WrittenQuery Global) (other : WrittenQuery) → query ≡ queries.Pair operator operand second → other ≡ second.value
      → query_syntax query ≡ written_pair operator (query_syntax inside) (query_syntax other)
  pair-is operator second other is also =
      ap query_syntax is ∙ pair_written operator operand second ∙ ap (λ q. written_pair operator (query_syntax q) (query_syntax second.value)) (sym same)
      ∙ ap (λ q. written_pair operator (query_syntax inside) (query_syntax q)) (sym also)

-- where nothing is said of a part, nothing is said of a query written with it
pub query-none : {A : Type 0} (part : A → Type 0) (line : List ℕ) (query : WrittenQuery) (syntax : QuerySyntax) (refusal : Refusal) → query_syntax query ≡ syntax
    → ((tree : QueryTree) → SaysQuery line syntax tree → (a : A) × part a) → NothingSaid part refusal → NothingSaid (SaysQuery line (query_syntax query)) refusal
query-none part line query syntax refusal is inside none =
    nothing-said part (SaysQuery line (query_syntax query)) refusal (λ tree says. inside tree (subst (λ s. SaysQuery line s tree) is says)) none
