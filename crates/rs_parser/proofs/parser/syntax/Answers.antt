use Rattle.std.proofs.Common.{◌-◌, ◌<◌, ◌≤◌, [], length, take, Some, Ok, sym, ap, ◌∙◌, subst, inr, arith}
use Rattle.std.proofs.lemmas.List.{take_rest}
use Rattle.rs_refusal.specs.declared.refusal.Refusal.TheVariants.{Syntax}
use Rattle.rs_lexer.specs.Lexis.{kinds_of}
use Rattle.rs_grammar.specs.Grammar.{command_form}
use Rattle.rs_descent.specs.Reading.{Runs, halt_of, StopsAt}
use Rattle.rs_syntax.specs.View.{written_of}
use Rattle.rs_syntax.specs.Verdict.{fault_column, FitsNoRule}
use Rattle.rs_syntax.proofs.BracketLaws.{length-kinds_of, take-kinds_of}
use Rattle.rs_syntax.proofs.VerdictLaws.{left_fits, fits_no_rule, too_many_brackets, is_written, parses_fault}
use Rattle.rs_parser.proofs.parser.syntax.Goals as goal

pub overflow_sub-shallow : goal.overflow_sub-shallow
overflow_sub-shallow c =
    let tokens = c.args.tokens.now in
    let n = c.shallow_count-shallow.result in
    let rest = c.in-Err-At.rest.now in
    let found = c.shallow_count-shallow.ensures in
    let inside : n ≤ length (kinds_of tokens) = omega (arith, length-kinds_of tokens, found.inside) in
    let stop = subst (λ ts. StopsAt ts (Some (kinds_of rest))) (sym (take-kinds_of n tokens)) (subst (λ s. StopsAt (kinds_of (take n tokens)) (halt_of s)) c.in-Err-At.field-0-is c.in-Err-At.ensures.stops) in
    let fits = left_fits (kinds_of tokens) n (kinds_of rest) inside found.shallow (λ lt. found.too_deep (omega (arith, length-kinds_of tokens))) stop in
    omega (arith, length-kinds_of rest, fits)

pub returns-in-Err-At-clause-err : goal.returns-in-Err-At-clause-err
returns-in-Err-At-clause-err c =
    let tokens = c.args.tokens.now in
    let n = c.shallow_count-shallow.result in
    let rest = c.in-Err-At.rest.now in
    let found = c.shallow_count-shallow.ensures in
    let inside : n ≤ length (kinds_of tokens) = omega (arith, length-kinds_of tokens, found.inside) in
    let stop = subst (λ ts. StopsAt ts (Some (kinds_of rest))) (sym (take-kinds_of n tokens)) (subst (λ s. StopsAt (kinds_of (take n tokens)) (halt_of s)) c.in-Err-At.field-0-is c.in-Err-At.ensures.stops) in
    let fault = fits_no_rule (kinds_of tokens) n (kinds_of rest) inside found.shallow (λ lt. found.too_deep (omega (arith, length-kinds_of tokens))) stop in
    inr (parses_fault c.args.line.now tokens (n - length rest) c.syntax_fault-in-Err-At.result
    (subst (λ m. FitsNoRule (kinds_of tokens) (n - m)) (length-kinds_of rest) fault)
    (c.syntax_fault-in-Err-At.ensures ∙ ap (λ ts. Syntax (fault_column c.args.line.now ts)) (take_rest tokens (n - length rest))))

pub returns-then-shallow-tokens-clause-ok : goal.returns-then-shallow-tokens-clause-ok
returns-then-shallow-tokens-clause-ok c =
    let found = c.shallow_count-shallow.ensures in
    is_written c.args.tokens.now c.shallow_count-shallow.result (written_of c.in-Ok.written) c.if-shallow-tokens.true found.shallow c.in-Ok.ensures.read c.in-Ok.ensures.spelled

pub returns-else-shallow-tokens-clause-err : goal.returns-else-shallow-tokens-clause-err
returns-else-shallow-tokens-clause-err c =
    let tokens = c.args.tokens.now in
    let n = c.shallow_count-shallow.result in
    let found = c.shallow_count-shallow.ensures in
    let ne = c.if-shallow-tokens.false in
    let lt : n < length tokens = omega (arith, found.inside) in
    let inside : n < length (kinds_of tokens) = omega (arith, length-kinds_of tokens) in
    let run = subst (λ ts. Runs command_form ts (Ok [])) (sym (take-kinds_of n tokens)) c.in-Ok.ensures.read in
    inr (parses_fault c.args.line.now tokens n c.syntax_fault.result
    (too_many_brackets (kinds_of tokens) n inside found.shallow (found.too_deep lt) run)
    (c.syntax_fault.ensures ∙ ap (λ ts. Syntax (fault_column c.args.line.now ts)) (take_rest tokens n)))
