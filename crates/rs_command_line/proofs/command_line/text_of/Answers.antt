use Rattle.std.proofs.Common.{ap, sym, ◌∙◌, option_map}
use Rattle.clap.specs.Words.{found_of}
use Rattle.clap.proofs.CallerLemmas.{some_of_text}
use Rattle.clap.proofs.WalkLemmas.{first_value-rows}
use Rattle.rs_command_line.proofs.command_line.text_of.Goals as goal

pub unwrap-requires : goal.unwrap-requires
unwrap-requires c =
    some_of_text _ c.get_str.result _ (c.get_str.ensures ∙ first_value-rows (found_of c.args.given.now) c.args.id.now) c.requires

pub returns : goal.returns
returns c =
    sym (c.get_str.ensures ∙ first_value-rows (found_of c.args.given.now) c.args.id.now) ∙ ap (option_map (λ s. s.now)) c.unwrap.ensures
