use Rattle.std.proofs.Common.{◌≡◌, []}
use Rattle.std.specs.Io.KnownBytes.{Keeps}
use Rattle.rs_csv_answers.specs.Lines.{AnswersTold}
use Rattle.rs_machine.specs.Served.{Machine}
use Rattle.rs_csv_answers.proofs.lines.answer_lines.Given as goal

-- the lines so far were answered, by steps alone
abbrev pub invariant-loop : goal.invariant-loop
invariant-loop g l = record {
  answers : (old : Machine) → g.S.Serve.is l.fn.engine old → (new : Machine) × g.S.Serve.is l.engine new
      × AnswersTold [] (g.R.Read.remaining l.fn.reader) (g.R.Read.remaining l.reader) old l.answered new (g.W.Write.contents l.fn.output) (g.W.Write.contents l.output);
  becomes : g.S.Serve.becomes l.fn.engine l.engine;
  quiet : l.answered.refused ≡ 0 → Keeps (g.E.Write.contents l.fn.errors) (g.E.Write.contents l.errors);
}
