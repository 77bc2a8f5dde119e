use Rattle.std.proofs.Common.{◌≡◌, map, take, true}
use Rattle.std.specs.Io.KnownBytes.{Keeps}
use Rattle.rs_csv_answers.specs.Questions.{AnswersAll}
use Rattle.rs_machine.specs.Served.{Machine}
use Rattle.rs_csv_answers.proofs.questions.answer_questions.Given as goal

-- the questions so far were answered
abbrev pub invariant-loop-place : goal.invariant-loop-place
invariant-loop-place g l = record {
  answers : (old : Machine) → g.S.Serve.is l.fn.engine old → (new : Machine) × g.S.Serve.is l.engine new
      × AnswersAll (map (λ question. question.now) (take l.place l.questions)) old l.are_answered new (g.W.Write.contents l.fn.output) (g.W.Write.contents l.output);
  quiet : l.are_answered ≡ true → Keeps (g.E.Write.contents l.fn.errors) (g.E.Write.contents l.errors);
}
