use Rattle.std.proofs.Common.{◌≡◌, ◌++◌, refl, sym, subst, arith}
use Rattle.rs_grammar.specs.declared.kind.TokenKind.TheVariants as kinds
use Rattle.rs_syntax.specs.Written.{name_lexemes, list_lexemes, lexemes_of}
use Rattle.rs_grammar.specs.Grammar.{rules, column_name, names}
use Rattle.std.proofs.lemmas.Result.{err_from_is_err_and}
use Rattle.rs_descent.specs.Reading.{gives_up}
use Rattle.rs_descent.proofs.Steps.{IsListSoFar, list-stops, list-next, list-end, list-spelled, list-within}
use Rattle.rs_descent.proofs.names.names.Goals as goal

pub returns-in_err-name-clause-runs : goal.returns-in_err-name-clause-runs
unfolding rules
returns-in_err-name-clause-runs c =
    let p = err_from_is_err_and c.from_residual.result c.from_residual.ensures.1 in
    rw (p.1, p.2) (list-stops kinds.Comma column_name names name_lexemes refl c.args.tokens.now c.loop-names.rest.now c.loop-names.names.items _ c.loop-names.invariant c.in_err-name.ensures.runs)

pub returns-in_err-push-clause-runs : goal.returns-in_err-push-clause-runs
returns-in_err-push-clause-runs c =
    let p = err_from_is_err_and c.from_residual-in_err-push.result c.from_residual-in_err-push.ensures.1 in
    rw (p.1, p.2) (gives_up)

pub loop-names-preserved : goal.loop-names-preserved
unfolding rules
loop-names-preserved c =
    let pushed = c.in_ok-push.ensures.items in
    subst (λ items. IsListSoFar kinds.Comma (rules names) name_lexemes c.args.tokens.now items c.in-Some.next.now) (sym pushed)
    (list-next kinds.Comma column_name names name_lexemes refl c.args.tokens.now c.loop-names.rest.now c.in_ok-name.behind.now c.in-Some.next.now c.loop-names.names.items c.in_ok-name.name c.loop-names.invariant c.in_ok-name.ensures.runs c.in-Some.ensures.found c.in_ok-name.ensures.spelled c.in-Some.ensures.spelled)

pub returns-in-None-clause-runs : goal.returns-in-None-clause-runs
unfolding rules
returns-in-None-clause-runs c = list-end kinds.Comma column_name names name_lexemes refl c.args.tokens.now c.loop-names.rest.now c.in_ok-name.behind.now c.loop-names.names.items c.in_ok-name.name c.loop-names.invariant c.in_ok-name.ensures.runs c.in-None.ensures.found

pub returns-in-None-clause-spelled : goal.returns-in-None-clause-spelled
unfolding rules
returns-in-None-clause-spelled c =
    let pushed = c.in_ok-push.ensures.items in
    subst (λ items. lexemes_of c.args.tokens.now ≡ list_lexemes kinds.Comma name_lexemes items ++ lexemes_of c.in_ok-name.behind.now) (sym pushed)
    (list-spelled kinds.Comma column_name names name_lexemes refl c.args.tokens.now c.loop-names.rest.now c.in_ok-name.behind.now c.loop-names.names.items c.in_ok-name.name c.loop-names.invariant c.in_ok-name.ensures.spelled)

pub returns-in-None-clause-shorter : goal.returns-in-None-clause-shorter
returns-in-None-clause-shorter c =
    let within = list-within kinds.Comma (rules names) name_lexemes c.args.tokens.now c.loop-names.rest.now c.loop-names.names.items c.loop-names.invariant in
    omega (arith, c.in_ok-name.ensures.shorter)
