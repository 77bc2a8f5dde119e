use Rattle.rs_syntax.specs.Written.{lexemes_of, position_lexemes}
use Rattle.rs_csv_lines.proofs.Spelled.{whole_spelling, told_spelling, spells_position}
use Rattle.rs_csv_lines.proofs.fields.position_of.Goals as goal

pub position-requires-in-Ok-default-empty : goal.position-requires-in-Ok-default-empty
position-requires-in-Ok-default-empty c =
    let arm = c.in-Ok-default-empty in
    told_spelling c.args.text.now c.args.tokens.now _ c.requires
    (whole_spelling (position_lexemes arm.written) (lexemes_of c.args.tokens.now) arm.field-0-1.now arm.ensures.spelled arm.len_below)

pub returns-in-Ok : goal.returns-in-Ok
returns-in-Ok c =
    let arm = c.in-Ok-default-empty in
    spells_position c.args.text.now c.args.tokens.now arm.field-0-1.now arm.written _ c.requires
    arm.ensures.runs arm.ensures.spelled arm.len_below c.in-Ok.ensures.ok
