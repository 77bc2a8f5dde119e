-- What is left of the reader is what is left of the input.
use Rattle.std.proofs.Common.{refl, subst}
use Rattle.std.specs.Io.Buffered.{reader_remaining}
use Rattle.rs_csv_answers.specs.Lines.{EndsAsCsv}
use Rattle.rs_csv_answers.proofs.FreshReader.{fresh_reader}
use Rattle.rs_csv_answers.proofs.ManyLines.{not_begun}
use Rattle.rs_csv_answers.proofs.lines.answer_input.Goals as goal

pub returns-in-Ok-clause-answers : goal.returns-in-Ok-clause-answers
returns-in-Ok-clause-answers g c = λ old is.
    let said = c.answer_lines.ensures.answers old is in
    let later = reader_remaining (λ r. g.R.Read.remaining r.now) c.answer_lines.new.reader in
    let first = fresh_reader (λ r. g.R.Read.remaining r.now) c.in-Ok.reader _ _ c.in-Ok.ensures.inner c.in-Ok.ensures.empty c.in-Ok.ensures.capacity refl in
    (said.0, said.1, (later, subst (λ unread. EndsAsCsv c.answer_lines.result unread later old said.0 (g.W.Write.contents c.args.output.now) (g.W.Write.contents c.answer_lines.new.output)) first said.2))

pub returns-in-Err-clause-answers : goal.returns-in-Err-clause-answers
returns-in-Err-clause-answers g c = λ old is. (old, is, (g.R.Read.remaining c.args.input.now, not_begun _ _ old))

pub returns-in-Err-clause-becomes : goal.returns-in-Err-clause-becomes
returns-in-Err-clause-becomes g c = g.met.S.Serve.becomes_itself c.args.engine.now
