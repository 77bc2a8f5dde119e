-- Its text is put, or a front of it; or it is refused, and nothing is put. It is counted in either case.
use Rattle.rs_csv_answers.proofs.OneAnswer.{said_text}
use Rattle.rs_csv_answers.proofs.Turns.{line_text}
use Rattle.rs_csv_answers.specs.Turns.{text_result}
use Rattle.rs_csv_answers.proofs.lines.answer_line.Goals as goal

pub returns-clause-answers : goal.returns-clause-answers
returns-clause-answers g c = λ old is.
    let said = c.answer_as_csv-answer.ensures.answers old is in (
      said.0,
      said.1,
      record {
        puts = record {
          answer = text_result (λ text. text.items) c.answer_as_csv-answer.result;
          is = line_text (λ text. text.items) c.args.line.now old said.0 c.answer_as_csv-answer.result said.2;
          said = said_text (λ text. text.items) c.answer_as_csv-answer.result c.put_answer.result c.put_answer.ensures.said;
          put = c.put_answer.ensures.put;
        };
        counted = c.meet.ensures.counted;
      },
    )
