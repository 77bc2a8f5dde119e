-- The home pages, then the last stage.
use Rattle.std.proofs.Common.{rules}
use Rattle.rs_journal.specs.Journal.{journal_of}
use Rattle.rs_journal.specs.declared.stage.Stage.TheVariants.{Home}
use Rattle.rs_journal.proofs.Advancing.{on_err, meanwhile-less, every-still, ends-then}
use Rattle.rs_journal.proofs.Staging.{home-gives}
use Rattle.rs_journal.proofs.checkpoint.from_home.Goals as goal

pub returns-in_err-bring_home-clause-ends : goal.returns-in_err-bring_home-clause-ends
returns-in_err-bring_home-clause-ends g c = λ first kept checkpoint makes every.
    let journal = journal_of g.C.Copies first c.args.copies.now in
    let goes = c.in_err-bring_home.ensures.goes first kept checkpoint makes every in
    record {
      done = search rules;
      reached = on_err _ _ (every-still g.D.Disk kept journal checkpoint _ Home _ c.requires.stage goes.fault);
      meanwhile = meanwhile-less g.D.Disk _ _ _ _ (λ image is. home-gives journal checkpoint image makes.carries is) goes.meanwhile;
    }

pub returns-clause-ends : goal.returns-clause-ends
returns-clause-ends g c = λ first kept checkpoint makes every.
    let journal = journal_of g.C.Copies first c.args.copies.now in
    let goes = c.in_ok-bring_home.ensures.goes first kept checkpoint makes every in
    ends-then g.D.Disk _ kept journal checkpoint _ _ _ _ _ _ _ (λ image is. home-gives journal checkpoint image makes.carries is) (λ image is. is)
    (search rules) goes.meanwhile (c.from_closing.ensures.ends journal kept checkpoint makes goes.done)
