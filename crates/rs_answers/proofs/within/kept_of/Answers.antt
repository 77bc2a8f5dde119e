use Rattle.std.proofs.Common.{sym, ap, ◌∙◌}
use Rattle.rs_facts.specs.Operators.{windowed}
use Rattle.rs_exec.specs.Given.{inside}
use Rattle.rs_answers.proofs.WindowRows.{windowed-twice}
use Rattle.rs_answers.proofs.within.kept_of.Goals as goal

pub returns-in-Between : goal.returns-in-Between
returns-in-Between c = λ k rows.
    (λ i. windowed (c.max.ensures i) (c.min.ensures i) k rows)
    ∙ windowed-twice c.args.from c.in-Between.first c.args.to c.in-Between.last k rows
    ∙ sym (ap (λ part. inside part k (windowed c.args.from c.args.to k rows)) c.in-Between.is)
