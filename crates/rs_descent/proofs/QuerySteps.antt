-- Steps of reading queries: how an operator and what follows it are spelled.
use Rattle.std.proofs.Common.{◌≡◌, List, [], ◌∷◌, ◌++◌, Result, Ok, Err, sym, ap, subst, ◌∙◌, append_assoc}
use Rattle.std.specs.Prelude.{IfOk}
use Rattle.std.specs.Borrow.{Bor}
use Rattle.rs_grammar.specs.declared.kind.TokenKind.{TokenKind}
use Rattle.rs_grammar.specs.declared.kind.TokenKind.TheVariants as kinds
use Rattle.rs_lexer.specs.declared.token.Token.{Token}
use Rattle.rs_syntax.specs.Written.{Lexeme, mark, operator_lexemes, lexemes_of, QuerySyntax, written_gaps, query_lexemes}
use Rattle.rs_syntax.specs.declared.written.WrittenQuery.{WrittenQuery}
use Rattle.rs_syntax.specs.WrittenView.{query_syntax}
use Rattle.rs_descent.specs.declared.front.Stop.{Stop}

-- an operator, a query, and what is after the comma in the brackets
pub operator-spelled : (kind : TokenKind) (tokens behind rest end : List Token) (operand others : List Lexeme) (query : WrittenQuery) (syntax : QuerySyntax)
    → lexemes_of tokens ≡ mark kinds.LeftParen ∷ (operand ++ mark kinds.Comma ∷ lexemes_of behind)
    → lexemes_of behind ≡ others ++ lexemes_of rest → lexemes_of rest ≡ mark kinds.RightParen ∷ lexemes_of end
    → query_syntax query ≡ syntax → query_lexemes syntax ≡ operator_lexemes kind operand others
    → mark kind ∷ lexemes_of tokens ≡ query_lexemes (query_syntax query) ++ lexemes_of end
operator-spelled kind tokens behind rest end operand others query syntax first second last written spelled =
    let inside = second ∙ ap (λ ps. others ++ ps) last ∙ sym (append_assoc others (mark kinds.RightParen ∷ []) (lexemes_of end)) in
    let whole = ap (λ ps. operand ++ mark kinds.Comma ∷ ps) inside
    ∙ sym (append_assoc operand (mark kinds.Comma ∷ (others ++ mark kinds.RightParen ∷ [])) (lexemes_of end)) in
    ap (λ ps. mark kind ∷ ps) (first ∙ ap (λ ps. mark kinds.LeftParen ∷ ps) whole)
    ∙ ap (λ ps. ps ++ lexemes_of end) (sym (ap query_lexemes written ∙ spelled))

-- the same, where a function looks for the bracket that closes
pub operator-closed : (kind : TokenKind) (tokens behind rest : List Token) (operand others : List Lexeme) (query : WrittenQuery) (syntax : QuerySyntax)
    (answer : Result (WrittenQuery × Bor (List Token)) Stop)
    → lexemes_of tokens ≡ mark kinds.LeftParen ∷ (operand ++ mark kinds.Comma ∷ lexemes_of behind) → lexemes_of behind ≡ others ++ lexemes_of rest
    → query_syntax query ≡ syntax → query_lexemes syntax ≡ operator_lexemes kind operand others
    → IfOk answer (λ found. found.0 ≡ query) → IfOk answer (λ found. lexemes_of rest ≡ mark kinds.RightParen ∷ lexemes_of found.1.now)
    → IfOk answer (λ found. mark kind ∷ lexemes_of tokens ≡ query_lexemes (query_syntax found.0) ++ lexemes_of found.1.now)
operator-closed kind tokens behind rest operand others query syntax (Ok found) first second written spelled same last =
    subst (λ q. mark kind ∷ lexemes_of tokens ≡ query_lexemes (query_syntax q) ++ lexemes_of found.1.now) (sym {A = WrittenQuery} same)
    (operator-spelled kind tokens behind rest found.1.now operand others query syntax first second last written spelled)
operator-closed kind tokens behind rest operand others query syntax (Err stop) first second written spelled same last = tt

-- GAPS and a query in brackets, where a function looks for the one that closes
pub gaps-closed : (tokens inside rest : List Token) (operand : QuerySyntax) (query : WrittenQuery) (answer : Result (WrittenQuery × Bor (List Token)) Stop)
    → lexemes_of tokens ≡ mark kinds.LeftParen ∷ lexemes_of inside → lexemes_of inside ≡ query_lexemes operand ++ lexemes_of rest → query_syntax query ≡ written_gaps operand
    → IfOk answer (λ found. found.0 ≡ query) → IfOk answer (λ found. lexemes_of rest ≡ mark kinds.RightParen ∷ lexemes_of found.1.now)
    → IfOk answer (λ found. mark kinds.Gaps ∷ lexemes_of tokens ≡ query_lexemes (query_syntax found.0) ++ lexemes_of found.1.now)
gaps-closed tokens inside rest operand query (Ok found) first second written same last =
    let closing = second ∙ ap (λ ps. query_lexemes operand ++ ps) last ∙ sym (append_assoc (query_lexemes operand) (mark kinds.RightParen ∷ []) (lexemes_of found.1.now)) in
    ap (λ ps. mark kinds.Gaps ∷ ps) (first ∙ ap (λ ps. mark kinds.LeftParen ∷ ps) closing)
    ∙ ap (λ q. query_lexemes q ++ lexemes_of found.1.now) (sym (ap query_syntax same ∙ written))
gaps-closed tokens inside rest operand query (Err stop) first second written same last = tt

-- a query in brackets, and the comma after it
pub operand-spelled : (tokens inside behind end : List Token) (query : WrittenQuery) → lexemes_of tokens ≡ mark kinds.LeftParen ∷ lexemes_of inside
    → lexemes_of inside ≡ query_lexemes (query_syntax query) ++ lexemes_of behind → lexemes_of behind ≡ mark kinds.Comma ∷ lexemes_of end
    → lexemes_of tokens ≡ mark kinds.LeftParen ∷ (query_lexemes (query_syntax query) ++ mark kinds.Comma ∷ lexemes_of end)
operand-spelled tokens inside behind end query first second last =
    first ∙ ap (λ ps. mark kinds.LeftParen ∷ ps) (second ∙ ap (λ ps. query_lexemes (query_syntax query) ++ ps) last)
