-- Each stage by its own function.
use Rattle.std.proofs.Common.{subst}
use Rattle.rs_journal.specs.Journal.{journal_of}
use Rattle.rs_journal.specs.Stages.{StageImage, EveryImage}
use Rattle.rs_journal.specs.declared.stage.Stage.TheVariants.{Fresh, Gate, Home, Closing}
use Rattle.rs_journal.proofs.Advancing.{ends-at, since-by}
use Rattle.rs_journal.proofs.checkpoint.complete.Goals as goal

pub returns-in-Fresh-clause-ends : goal.returns-in-Fresh-clause-ends
returns-in-Fresh-clause-ends g c = λ kept checkpoint makes every.
    let journal = journal_of g.C.Copies c.args.first c.args.copies.now in
    ends-at g.D.Disk _ kept journal checkpoint c.args.stage.now Fresh _ _ _ c.in-Fresh.is (c.from_fresh.ensures.ends kept checkpoint makes) every

pub returns-in-Fresh-clause-since : goal.returns-in-Fresh-clause-since
returns-in-Fresh-clause-since g c = λ kept checkpoint makes every.
    let journal = journal_of g.C.Copies c.args.first c.args.copies.now in
    since-by g.D.Disk kept journal checkpoint c.args.stage.now _ _ (g.met.D.Disk.only_now c.args.disk.now) makes every
    (returns-in-Fresh-clause-ends g c kept checkpoint makes every).meanwhile

pub returns-in-Fresh-clause-untouched : goal.returns-in-Fresh-clause-untouched
returns-in-Fresh-clause-untouched g c = λ kept checkpoint makes every.
    let journal = journal_of g.C.Copies c.args.first c.args.copies.now in
    c.from_fresh.ensures.untouched kept checkpoint makes (subst (λ s. EveryImage g.D.Disk (StageImage s kept journal checkpoint) c.args.disk.now) c.in-Fresh.is every)

pub returns-in-Gate-clause-ends : goal.returns-in-Gate-clause-ends
returns-in-Gate-clause-ends g c = λ kept checkpoint makes every.
    let journal = journal_of g.C.Copies c.args.first c.args.copies.now in
    ends-at g.D.Disk _ kept journal checkpoint c.args.stage.now Gate _ _ _ c.in-Gate.is (c.from_gate.ensures.ends c.args.first kept checkpoint makes) every

pub returns-in-Gate-clause-since : goal.returns-in-Gate-clause-since
returns-in-Gate-clause-since g c = λ kept checkpoint makes every.
    let journal = journal_of g.C.Copies c.args.first c.args.copies.now in
    since-by g.D.Disk kept journal checkpoint c.args.stage.now _ _ (g.met.D.Disk.only_now c.args.disk.now) makes every
    (returns-in-Gate-clause-ends g c kept checkpoint makes every).meanwhile

pub returns-in-Home-clause-ends : goal.returns-in-Home-clause-ends
returns-in-Home-clause-ends g c = λ kept checkpoint makes every.
    let journal = journal_of g.C.Copies c.args.first c.args.copies.now in
    ends-at g.D.Disk _ kept journal checkpoint c.args.stage.now Home _ _ _ c.in-Home.is (c.from_home.ensures.ends c.args.first kept checkpoint makes) every

pub returns-in-Home-clause-since : goal.returns-in-Home-clause-since
returns-in-Home-clause-since g c = λ kept checkpoint makes every.
    let journal = journal_of g.C.Copies c.args.first c.args.copies.now in
    since-by g.D.Disk kept journal checkpoint c.args.stage.now _ _ (g.met.D.Disk.only_now c.args.disk.now) makes every
    (returns-in-Home-clause-ends g c kept checkpoint makes every).meanwhile

pub returns-in-Closing-clause-ends : goal.returns-in-Closing-clause-ends
returns-in-Closing-clause-ends g c = λ kept checkpoint makes every.
    let journal = journal_of g.C.Copies c.args.first c.args.copies.now in
    ends-at g.D.Disk _ kept journal checkpoint c.args.stage.now Closing _ _ _ c.in-Closing.is (c.from_closing.ensures.ends journal kept checkpoint makes) every

pub returns-in-Closing-clause-since : goal.returns-in-Closing-clause-since
returns-in-Closing-clause-since g c = λ kept checkpoint makes every.
    let journal = journal_of g.C.Copies c.args.first c.args.copies.now in
    since-by g.D.Disk kept journal checkpoint c.args.stage.now _ _ (g.met.D.Disk.only_now c.args.disk.now) makes every
    (returns-in-Closing-clause-ends g c kept checkpoint makes every).meanwhile
