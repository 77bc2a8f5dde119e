use Rattle.std.proofs.Common.{◌≡◌, ◌++◌, refl, sym, subst}
use Rattle.rs_syntax.specs.Written.{column_lexemes, list_lexemes, lexemes_of}
use Rattle.std.proofs.lemmas.Result.{err_from_is_err_and}
use Rattle.rs_grammar.specs.declared.kind.TokenKind.TheVariants as kinds
use Rattle.rs_grammar.specs.Grammar.{rules, column, columns}
use Rattle.rs_descent.specs.Reading.{gives_up}
use Rattle.rs_descent.proofs.Steps.{IsListSoFar, list-stops, list-next, list-end, list-spelled}
use Rattle.rs_descent.proofs.columns.columns.Goals as goal

pub returns-in_err-column-clause-runs : goal.returns-in_err-column-clause-runs
unfolding rules
returns-in_err-column-clause-runs c =
    let p = err_from_is_err_and c.from_residual.result c.from_residual.ensures.1 in
    rw (p.1, p.2) (list-stops kinds.Comma column columns column_lexemes refl c.args.tokens.now c.loop-columns.rest.now c.loop-columns.columns.items _ c.loop-columns.invariant c.in_err-column.ensures.runs)

pub returns-in_err-push-clause-runs : goal.returns-in_err-push-clause-runs
returns-in_err-push-clause-runs c =
    let p = err_from_is_err_and c.from_residual-in_err-push.result c.from_residual-in_err-push.ensures.1 in
    rw (p.1, p.2) gives_up

pub loop-columns-preserved : goal.loop-columns-preserved
unfolding rules
loop-columns-preserved c =
    let pushed = c.in_ok-push.ensures.items in
    subst (λ items. IsListSoFar kinds.Comma (rules columns) column_lexemes c.args.tokens.now items c.in-Some.next.now) (sym pushed)
    (list-next kinds.Comma column columns column_lexemes refl c.args.tokens.now c.loop-columns.rest.now c.in_ok-column.behind.now c.in-Some.next.now c.loop-columns.columns.items c.in_ok-column.column c.loop-columns.invariant c.in_ok-column.ensures.runs c.in-Some.ensures.found c.in_ok-column.ensures.spelled c.in-Some.ensures.spelled)

pub returns-in-None-clause-runs : goal.returns-in-None-clause-runs
unfolding rules
returns-in-None-clause-runs c = list-end kinds.Comma column columns column_lexemes refl c.args.tokens.now c.loop-columns.rest.now c.in_ok-column.behind.now c.loop-columns.columns.items c.in_ok-column.column c.loop-columns.invariant c.in_ok-column.ensures.runs c.in-None.ensures.found

pub returns-in-None-clause-spelled : goal.returns-in-None-clause-spelled
unfolding rules
returns-in-None-clause-spelled c =
    let pushed = c.in_ok-push.ensures.items in
    subst (λ items. lexemes_of c.args.tokens.now ≡ list_lexemes kinds.Comma column_lexemes items ++ lexemes_of c.in_ok-column.behind.now) (sym pushed)
    (list-spelled kinds.Comma column columns column_lexemes refl c.args.tokens.now c.loop-columns.rest.now c.in_ok-column.behind.now c.loop-columns.columns.items c.in_ok-column.column c.loop-columns.invariant c.in_ok-column.ensures.spelled)
