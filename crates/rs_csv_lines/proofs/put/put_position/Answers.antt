use Rattle.std.proofs.Common.{inl, inr, refl, subst}
use Rattle.std.proofs.lemmas.Result.{IfOk-weaker}
use Rattle.rs_measure.specs.Measure.{measure_text}
use Rattle.rs_csv_lines.specs.Numbers.{WritesMeasure}
use Rattle.rs_csv_lines.proofs.Positions.{told_in}
use Rattle.rs_csv_lines.proofs.put.put_position.Goals as goal

pub put_written-requires : goal.put_written-requires
put_written-requires c = told_in c.in_ok-field.field.text.now c.in-Ok.written _ c.in-Ok.ensures

pub returns-in_default : goal.returns-in_default
returns-in_default c =
    let field = c.in_ok-field.ensures in
    IfOk-weaker c.put_measure.result _ _
    (λ found put. (measure_text put.0, (field.0, field.1, field.2, inr (inl (put.0, subst (λ text. WritesMeasure c.args.measures text put.0) field.3.0 put.1, put.2, refl))), put.3))
    c.put_measure.ensures
