use Rattle.std.proofs.Common.{◌≡◌, ◌∙◌, Some, None, ap, option_map, sym}
use Rattle.clap.specs.Words.{first_of, found_of, rows_of}
use Rattle.clap.proofs.WalkLemmas.{first_value-rows}
use Rattle.rs_command_line.specs.Asked.{is_true}
use Rattle.rs_command_line.proofs.command_line.has_flag.Goals as goal

pub returns-in-Some : goal.returns-in-Some
returns-in-Some c =
    let given : first_of c.args.id.now (rows_of (found_of c.args.given.now)) ≡ Some c.in-Some.value.now =
    sym (c.get_str.ensures ∙ first_value-rows (found_of c.args.given.now) c.args.id.now) ∙ ap (option_map (λ s. s.now)) c.in-Some.is in
    c.eq.ensures ∙ sym (ap is_true given)

pub returns-in-None : goal.returns-in-None
returns-in-None c =
    let given : first_of c.args.id.now (rows_of (found_of c.args.given.now)) ≡ None =
    sym (c.get_str.ensures ∙ first_value-rows (found_of c.args.given.now) c.args.id.now) ∙ ap (option_map (λ s. s.now)) c.in-None.is in
    sym (ap is_true given)
