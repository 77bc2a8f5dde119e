-- The line is answered; or memory was wanting for it.
use Rattle.std.proofs.Common.{◌≡◌, inr, refl}
use Rattle.rs_csv_answers.specs.Questions.{line_of}
use Rattle.rs_csv_answers.proofs.Turns.{answered_text}
use Rattle.rs_csv_answers.proofs.questions.answer_to.Goals as goal

pub returns-in-Ok : goal.returns-in-Ok
returns-in-Ok g c = λ old is.
    let said = c.answer_as_csv.ensures.answers old is in
    let same : c.as_bytes.result.now ≡ line_of c.args.question.now = cc (c.as_bytes.ensures.value, c.in-Ok.ensures) in
    (said.0, said.1, answered_text _ c.args.question.now c.as_bytes.result.now old said.0 c.answer_as_csv.result same said.2)

pub returns-in-Err : goal.returns-in-Err
returns-in-Err g c = λ old is. (old, is, inr (refl, refl))
