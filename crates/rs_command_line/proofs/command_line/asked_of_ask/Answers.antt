use Rattle.std.proofs.Common.{◌∙◌, [], List, Option, Some, IsSome, None, ap, codes, option_map, refl, sym, true≢false}
use Rattle.std.specs.Prelude.{unwrap_or}
use Rattle.clap.specs.Words.{Text, all_of, first_of, found_of, rows_of}
use Rattle.rs_command_line.specs.Asked.{Said, asks}
use Rattle.rs_command_line.proofs.command_line.asked_of_ask.Goals as goal

-- what is asked by a file and questions
abbrev ask_with : Option Text → List Text → Option Said
ask_with file questions = option_map (λ f. asks f questions) file

has_file : (file : Option Text) (questions : List Text) → IsSome (ask_with file questions) → IsSome file
has_file None questions e = absurd (true≢false (sym e))
has_file (Some f) questions e = refl

pub text_of-requires : goal.text_of-requires
text_of-requires c =
    let rows = rows_of (found_of c.args.given.now) in
    has_file (first_of (codes "file") rows) (unwrap_or (all_of (codes "question") rows) []) c.requires

pub returns : goal.returns
returns c =
    let rows = rows_of (found_of c.args.given.now) in
    let file_is = ap (λ (f : Option Text). ask_with f (unwrap_or (all_of (codes "question") rows) [])) c.text_of.ensures in
    file_is ∙ ap (λ (q : List Text). ask_with (Some c.text_of.result.now) q) (sym c.in_ok-questions.ensures)
