use Rattle.std.proofs.Common.{◌≡◌, ◌∙◌, Bool, Option, Some, IsSome, None, ap, codes, option_map, refl, sym, true≢false}
use Rattle.clap.specs.Words.{Text, first_of, found_of, rows_of}
use Rattle.clap.proofs.WalkLemmas.{first_value-rows}
use Rattle.rs_command_line.specs.Asked.{Said, dumps, flag_in, given_text}
use Rattle.rs_command_line.proofs.command_line.asked_of_dump.Goals as goal

-- what is asked by a file, a table and a flag
abbrev dump_with : Option Text → Option Text → Bool → Option Said
dump_with file table omits_rows = option_map (λ f. dumps f table omits_rows) file

has_file : (file table : Option Text) (omits_rows : Bool) → IsSome (dump_with file table omits_rows) → IsSome file
has_file None table omits_rows e = absurd (true≢false (sym e))
has_file (Some f) table omits_rows e = refl

pub text_of-requires : goal.text_of-requires
text_of-requires c =
    let rows = rows_of (found_of c.args.given.now) in
    has_file (first_of (codes "file") rows) (first_of (codes "table") rows) (flag_in (codes "definitions") rows) c.requires

pub returns : goal.returns
returns c =
    let rows = rows_of (found_of c.args.given.now) in
    let table : first_of (codes "table") rows ≡ given_text c.get_str.result = sym (c.get_str.ensures ∙ first_value-rows (found_of c.args.given.now) (codes "table")) in
    let file_is = ap (λ (f : Option Text). dump_with f (first_of (codes "table") rows) (flag_in (codes "definitions") rows)) c.text_of.ensures in
    let table_is = ap (λ (t : Option Text). dump_with (Some c.text_of.result.now) t (flag_in (codes "definitions") rows)) table in
    let flag_is = ap (λ (b : Bool). dump_with (Some c.text_of.result.now) (given_text c.get_str.result) b) (sym c.has_flag.ensures) in
    file_is ∙ (table_is ∙ flag_is)
