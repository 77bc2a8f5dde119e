use Rattle.std.proofs.Common.{◌≡◌, Ok, Err, sym, subst, inl, inr, ⊎_elim}
use Rattle.std.specs.Prelude.{◌⊎◌}
use Rattle.std.proofs.lemmas.Result.{IfOk-weaker, IfErr-weaker, err_from_is_err_and}
use Rattle.rs_refusal.specs.declared.refusal.Refusal.TheVariants.{OutOfMemory}
use Rattle.rs_syntax.specs.View.{tree_of}
use Rattle.rs_syntax.specs.Verdict.{Parses, Reads, has_no_tokens, has_tokens}
use Rattle.rs_parser.proofs.parser.command_of.Goals as goal

pub returns-in_err-tokens-clause-err : goal.returns-in_err-tokens-clause-err
returns-in_err-tokens-clause-err c =
    let p = err_from_is_err_and c.from_residual.result c.from_residual.ensures.1 in
    rw (p.1, p.2) (⊎_elim
    (λ memory. inl memory)
    (λ r. inr (subst (λ e. Reads c.args.line.now c.args.from (Err e)) (sym r.0) (has_no_tokens r.1)))
    c.in_err-tokens.ensures.refused)

pub returns-clause-ok : goal.returns-clause-ok
returns-clause-ok c =
    let line = c.args.line.now in
    let tokens = c.in_ok-tokens.tokens.items in
    IfOk-weaker c.parse.result (λ command. Parses line c.deref.result.now (Ok (tree_of command))) (λ command. Reads line c.args.from (Ok (tree_of command)))
    (λ command parses. has_tokens tokens (Ok (tree_of command)) c.in_ok-tokens.ensures.cut (subst (λ ts. Parses line ts (Ok (tree_of command))) c.deref.ensures.value parses)) c.parse.ensures.ok

pub returns-clause-err : goal.returns-clause-err
returns-clause-err c =
    let line = c.args.line.now in
    let tokens = c.in_ok-tokens.tokens.items in
    IfErr-weaker c.parse.result
    (λ refusal. (refusal ≡ OutOfMemory) ⊎ Parses line c.deref.result.now (Err refusal))
    (λ refusal. (refusal ≡ OutOfMemory) ⊎ Reads line c.args.from (Err refusal))
    (λ refusal cases. ⊎_elim (λ memory. inl memory)
    (λ parses. inr (has_tokens tokens (Err refusal) c.in_ok-tokens.ensures.cut (subst (λ ts. Parses line ts (Err refusal)) c.deref.ensures.value parses))) cases)
    c.parse.ensures.err
