use Rattle.std.proofs.Common.{ap, ◌∙◌}
use Rattle.rs_exec.specs.Given.{inside}
use Rattle.rs_exec.proofs.RowLaws.{windowed-empty, windowed-first}
use Rattle.rs_exec.proofs.Steps.{at-most, more-than}
use Rattle.rs_exec.proofs.windows.is_empty.Goals as goal

pub returns-in-Between-clause-empty : goal.returns-in-Between-clause-empty
returns-in-Between-clause-empty c = λ e k rows.
    ap (λ part. inside part k rows) c.in-Between.is ∙ windowed-empty c.in-Between.from c.in-Between.to k rows (at-most c.in-Between.to c.in-Between.from e)

pub returns-in-Between-clause-room : goal.returns-in-Between-clause-room
returns-in-Between-clause-room c = λ e. record {
  at = c.in-Between.from;
  all = λ rows. ap (λ part. inside part c.in-Between.from rows) c.in-Between.is ∙ windowed-first c.in-Between.from c.in-Between.to rows (more-than c.in-Between.to c.in-Between.from e);
}

pub returns-in-Whole-clause-room : goal.returns-in-Whole-clause-room
returns-in-Whole-clause-room c = λ e. record { at = 0; all = λ rows. ap (λ part. inside part 0 rows) c.in-Whole.is }
