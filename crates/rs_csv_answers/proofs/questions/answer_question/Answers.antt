-- Its text is put, or a front of it; or it is refused, and nothing is put.
use Rattle.rs_csv_answers.proofs.OneAnswer.{puts_one}
use Rattle.rs_csv_answers.proofs.questions.answer_question.Goals as goal

pub returns-clause-answers : goal.returns-clause-answers
returns-clause-answers g c = λ old is.
    let said = c.answer_to-answer.ensures old is in
    (said.0, said.1, puts_one _ (λ text. text.items) c.answer_to-answer.result c.args.question.now old c.put_answer.result said.0 _ _ said.2 c.put_answer.ensures.said c.put_answer.ensures.put)
