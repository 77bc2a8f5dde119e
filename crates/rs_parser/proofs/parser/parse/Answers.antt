use Rattle.std.proofs.Common.{◌≡◌, Ok, Err, sym, subst, inl, inr, ⊎_elim}
use Rattle.std.specs.Prelude.{◌⊎◌}
use Rattle.std.proofs.lemmas.Result.{IfOk-weaker, IfErr-weaker}
use Rattle.rs_refusal.specs.declared.refusal.Refusal.TheVariants.{OutOfMemory, NumberOutOfRange}
use Rattle.rs_syntax.specs.Tree.{CommandTree}
use Rattle.rs_syntax.specs.View.{tree_of, written_of}
use Rattle.rs_syntax.specs.Written.{Says, AreToldOf}
use Rattle.rs_syntax.specs.Verdict.{Parses, is_command, is_out_of_range}
use Rattle.rs_syntax.specs.Sound.{IsSound}
use Rattle.rs_syntax.proofs.SoundLaws.{sound}
use Rattle.rs_syntax.proofs.VerdictLaws.{told_of}
use Rattle.rs_parser.proofs.parser.parse.Goals as goal

pub meaning-requires-clause-told : goal.meaning-requires-clause-told
meaning-requires-clause-told c = subst (AreToldOf c.args.line.now) c.in_ok-written.ensures.ok.spelled (told_of c.args.line.now c.args.tokens.now c.requires)

pub returns-clause-ok : goal.returns-clause-ok
returns-clause-ok c =
    let written = written_of c.in_ok-written.written in
    IfOk-weaker c.meaning.result (λ command. Says c.args.line.now c.args.tokens.now written (tree_of command)) (λ command. Parses c.args.line.now c.args.tokens.now (Ok (tree_of command)))
    (λ command says. is_command written (tree_of command) c.in_ok-written.ensures.ok says) c.meaning.ensures.ok

pub returns-clause-err : goal.returns-clause-err
returns-clause-err c =
    let written = written_of c.in_ok-written.written in
    IfErr-weaker c.meaning.result
    (λ refusal. (refusal ≡ OutOfMemory) ⊎ ((refusal ≡ NumberOutOfRange) × ((tree : CommandTree) → Says c.args.line.now c.args.tokens.now written tree → ⊥)))
    (λ refusal. (refusal ≡ OutOfMemory) ⊎ Parses c.args.line.now c.args.tokens.now (Err refusal))
    (λ refusal cases. ⊎_elim (λ memory. inl memory)
    (λ r. inr (subst (λ e. Parses c.args.line.now c.args.tokens.now (Err e)) (sym r.0) (is_out_of_range written c.in_ok-written.ensures.ok r.1))) cases)
    c.meaning.ensures.err

pub returns-clause-sound : goal.returns-clause-sound
returns-clause-sound c = λ clean.
    let written = written_of c.in_ok-written.written in
    let all = subst (AreToldOf c.args.line.now) c.in_ok-written.ensures.ok.spelled (told_of c.args.line.now c.args.tokens.now c.requires) in
    IfOk-weaker c.meaning.result (λ command. Says c.args.line.now c.args.tokens.now written (tree_of command)) (λ command. IsSound (tree_of command))
    (λ command says. sound c.args.line.now c.args.tokens.now written (tree_of command) clean c.in_ok-written.ensures.full all says) c.meaning.ensures.ok
