-- The gate, then the home pages.
use Rattle.std.proofs.Common.{inr, rules}
use Rattle.rs_journal.specs.Journal.{journal_of}
use Rattle.rs_journal.specs.declared.stage.Stage.TheVariants.{Gate}
use Rattle.rs_journal.proofs.Advancing.{on_err, meanwhile-less, every-still, ends-then}
use Rattle.rs_journal.proofs.Staging.{gate-gives}
use Rattle.rs_journal.proofs.checkpoint.from_gate.Goals as goal

pub returns-in_err-open_gate-clause-ends : goal.returns-in_err-open_gate-clause-ends
returns-in_err-open_gate-clause-ends g c = λ first kept checkpoint makes every.
    let journal = journal_of g.C.Copies first c.args.copies.now in
    let goes = c.in_err-open_gate.ensures.goes journal kept checkpoint makes every in
    record {
      done = search rules;
      reached = on_err _ _ (every-still g.D.Disk kept journal checkpoint _ Gate _ c.requires.stage goes.fault);
      meanwhile = meanwhile-less g.D.Disk _ _ _ _ (λ image is. gate-gives journal kept checkpoint image makes is) goes.meanwhile;
    }

pub returns-clause-ends : goal.returns-clause-ends
returns-clause-ends g c = λ first kept checkpoint makes every.
    let journal = journal_of g.C.Copies first c.args.copies.now in
    let goes = c.in_ok-open_gate.ensures.goes journal kept checkpoint makes every in
    ends-then g.D.Disk _ kept journal checkpoint _ _ _ _ _ _ _ (λ image is. gate-gives journal kept checkpoint image makes is) (λ image is. inr is)
    (search rules) goes.meanwhile (c.from_home.ensures.ends first kept checkpoint makes goes.done)
