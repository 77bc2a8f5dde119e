use Rattle.std.proofs.Common.{[], ◌∷◌, ◌++◌, take, get_or, sym, ap, ◌∙◌}
use Rattle.std.specs.Prelude.{map}
use Rattle.std.proofs.lemmas.List.{map-append, take_more}
use Rattle.rs_lexer.specs.declared.token.Token.{Token}
use Rattle.rs_lexer.specs.Lexis.{token_text}
use Rattle.rs_grammar.specs.declared.kind.TokenKind.TheVariants as kinds
use Rattle.rs_syntax.specs.Written.{name_lexemes}
use Rattle.rs_meaning.proofs.MeaningLaws.{list_told}
use Rattle.rs_meaning.proofs.said_queries.names_said.Goals as goal

pub name-requires-clause-inside : goal.name-requires-clause-inside
name-requires-clause-inside c = (list_told kinds.Comma c.args.line.now name_lexemes c.args.written.now c.requires c.loop-token.token-index _ c.loop-token-test.true).0.0

pub name-requires-clause-kind : goal.name-requires-clause-kind
name-requires-clause-kind c = (list_told kinds.Comma c.args.line.now name_lexemes c.args.written.now c.requires c.loop-token.token-index _ c.loop-token-test.true).0.1

-- what a list of tokens gives past its end
abbrev blank : Token
blank = record { kind = kinds.Absolute; first = 0; length = 0 }

pub loop-token-preserved : goal.loop-token-preserved
loop-token-preserved c =
    let line = c.args.line.now in
    let i = c.loop-token.token-index in
    let before = map (token_text line) (take i c.args.written.now) in
    let pushed = ap (map (λ name. name.bytes)) c.in_ok-push.ensures.items ∙ map-append (λ name. name.bytes) c.loop-token.names.items (c.name.result ∷ []) in
    let taken = ap (map (token_text line)) (take_more c.args.written.now i blank c.loop-token-test.true)
    ∙ map-append (token_text line) (take i c.args.written.now) (get_or c.args.written.now i blank ∷ []) in
    pushed ∙ ap (λ xs. xs ++ c.name.result.bytes ∷ []) c.loop-token.invariant ∙ ap (λ b. before ++ b ∷ []) c.name.ensures ∙ sym taken
