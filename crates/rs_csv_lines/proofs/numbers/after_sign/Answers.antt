use Rattle.std.proofs.Common.{◌∙◌, ◌∷◌, [], inr, refl, ap}
use Rattle.rs_csv_lines.proofs.numbers.after_sign.Goals as goal

pub returns-in-Some-eq43-default : goal.returns-in-Some-eq43-default
returns-in-Some-eq43-default c =
    let plus = c.in-Some-eq43-default in
    (43 ∷ [], inr refl, plus.ensures.cases.0 ∙ ap (λ byte. byte ∷ plus.rest.now) plus.field-0-0-test)
