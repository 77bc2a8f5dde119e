use Rattle.rs_csv_lines.proofs.Positions.{referent_token, spells_referent}
use Rattle.rs_csv_lines.proofs.fields.referent_in.Goals as goal

pub name-requires : goal.name-requires
name-requires c =
    let told = referent_token c.args.text.now _ c.in-Referent-default.referent _ c.in_ok-referent.ensures c.in-Referent-default.is-0 in
    record { inside = told.0; kind = told.1 }

pub returns-in-Referent-default : goal.returns-in-Referent-default
returns-in-Referent-default c =
    let referent = c.in-Referent-default.referent in
    (referent, spells_referent c.args.text.now c.name.result.bytes _ referent _ c.in_ok-referent.ensures c.in-Referent-default.is-0 c.name.ensures)
