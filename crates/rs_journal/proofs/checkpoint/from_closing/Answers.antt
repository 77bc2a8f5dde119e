-- The last stage.
use Rattle.std.proofs.Common.{refl, rules}
use Rattle.rs_journal.specs.declared.stage.Stage.TheVariants.{Closing}
use Rattle.rs_journal.proofs.Advancing.{on_err, meanwhile-less, every-still}
use Rattle.rs_journal.proofs.Staging.{closing-gives}
use Rattle.rs_journal.proofs.checkpoint.from_closing.Goals as goal

pub returns-in_err-close_gate-clause-ends : goal.returns-in_err-close_gate-clause-ends
returns-in_err-close_gate-clause-ends g c = λ journal kept checkpoint makes every.
    let goes = c.in_err-close_gate.ensures.goes journal checkpoint makes.carries every in
    record {
      done = search rules;
      reached = on_err _ _ (every-still g.D.Disk kept journal checkpoint _ Closing _ c.requires goes.fault);
      meanwhile = meanwhile-less g.D.Disk _ _ _ _ (λ image is. closing-gives journal checkpoint image makes.carries is) goes.meanwhile;
    }

pub returns-clause-ends : goal.returns-clause-ends
returns-clause-ends g c = λ journal kept checkpoint makes every.
    let goes = c.in_ok-close_gate.ensures.goes journal checkpoint makes.carries every in
    record {
      done = (refl, goes.done);
      reached = tt;
      meanwhile = meanwhile-less g.D.Disk _ _ _ _ (λ image is. closing-gives journal checkpoint image makes.carries is) goes.meanwhile;
    }
