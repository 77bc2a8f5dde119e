use Rattle.std.proofs.Common.{map, ◌≡◌, ◌∙◌, ap, refl, subst, sym, true, []}
use Rattle.std.proofs.lemmas.Result.{err_from_is_err_and}
use Rattle.std.specs.Prelude.{IsSome, option_and_then}
use Rattle.clap.specs.Kinds.{HasKind}
use Rattle.clap.specs.Words.{App, FailsBy, fault_of, is_simple, is_simple_and_free, subcommand_of, subcommand_rows_of}
use Rattle.clap.proofs.OnLiterals.{clap_on_literals}
use Rattle.rs_command_line.specs.CommandLine.{command_line}
use Rattle.rs_command_line.specs.Asked.{asked_by}
use Rattle.rs_command_line.proofs.Asking.{words_ask}
use Rattle.rs_command_line.proofs.Range.{asked_in_range}
use Rattle.rs_command_line.proofs.command_line.read_words.Goals as goal

is_plain : is_simple_and_free command_line ≡ true
unfolding clap_on_literals
is_plain = refl

is_easy : is_simple command_line ≡ true
unfolding clap_on_literals
is_easy = refl

pub returns-clause-fails : goal.returns-clause-fails
returns-clause-fails g c =
    let P : App → Type 0 = λ a. is_simple_and_free a ≡ true → fault_of a (map g.S.AsStr.text c.args.words.now) ≡ [] in
    subst P c.in_ok-command.ensures c.in_ok-matches.ensures.kinds is_plain

pub asked_in-asked-requires : goal.asked_in-asked-requires
asked_in-asked-requires g c =
    let words = map g.S.AsStr.text c.args.words.now in
    let P : App → Type 0 = λ a. is_simple_and_free a ≡ true → fault_of a words ≡ [] in
    let passed = subst P c.in_ok-command.ensures c.in_ok-matches.ensures.kinds is_plain in
    let M : App → Type 0 = λ a. is_simple a ≡ true → subcommand_rows_of c.in_ok-matches.matches ≡ subcommand_of a words in
    let met = subst M c.in_ok-command.ensures (λ easy. (c.in_ok-matches.ensures.matches easy).1) is_easy in
    subst (λ o. IsSome (option_and_then asked_by o)) (sym met) (words_ask words passed)

pub returns-in_err-matches-clause-fails : goal.returns-in_err-matches-clause-fails
returns-in_err-matches-clause-fails g c =
    let words = map g.S.AsStr.text c.args.words.now in
    let P : App → Type 0 = λ a. is_simple_and_free a ≡ true → HasKind (fault_of a words) c.in_err-matches.field-0.0 in
    let fails = subst P c.in_ok-command.ensures c.in_err-matches.ensures.kinds is_plain in
    let p = err_from_is_err_and c.from_residual-in_err-matches.result c.from_residual-in_err-matches.ensures.1 in
    subst (λ r. FailsBy (fault_of command_line words) r) (sym p.1) (subst (HasKind (fault_of command_line words)) (sym p.2) fails)

pub returns-clause-asks : goal.returns-clause-asks
returns-clause-asks g c =
    let words = map g.S.AsStr.text c.args.words.now in
    let M : App → Type 0 = λ a. is_simple a ≡ true → subcommand_rows_of c.in_ok-matches.matches ≡ subcommand_of a words in
    let met = subst M c.in_ok-command.ensures (λ easy. (c.in_ok-matches.ensures.matches easy).1) is_easy in
    ap (option_and_then asked_by) (sym met) ∙ c.in_ok-asked.ensures

pub returns-clause-range : goal.returns-clause-range
returns-clause-range g c = asked_in_range (subcommand_rows_of c.in_ok-matches.matches) c.in_ok-asked.asked c.in_ok-asked.ensures
