-- They are answered from the state that the disk stood for; or it was not opened.
use Rattle.std.proofs.Common.{IsTrue, subst, sym}
use Rattle.rs_engine.specs.Files.{machine_with}
use Rattle.rs_pages.specs.declared.pages.TheConstants.{GREATEST_LIMIT}
use Rattle.rs_server.proofs.Surviving.{opened_before}
use Rattle.rs_server.proofs.Unopened.{refuses_file}
use Rattle.rs_server.specs.Disks.{disk_of}
use Rattle.rs_server.proofs.as_csv.answer_disk.Goals as goal

pub returns-in-Ok-clause-answers : goal.returns-in-Ok-clause-answers
returns-in-Ok-clause-answers g c = λ honest.
    let d = g.D.Disk in
    let opens = (c.in-Ok.ensures.opens honest).opens in
    let first = machine_with d opens.state c.in-Ok.engine in
    let answers = c.answer_and_close-outcome.ensures.answers first opens.state (c.machine_is_the_only_one.ensures c.in-Ok.engine first opens.is) opens.last in
    record {
      first = first;
      stood = opens.stood;
      failures = c.in-Ok.ensures.hands.count;
      full = (c.in-Ok.ensures.opens honest).opens.full;
      opened = c.in-Ok.engine.store.pager.disk;
      answers = answers;
      crashes = λ on. opened_before d answers.calls first c.args.disk c.in-Ok.engine.store.pager.disk ((c.in-Ok.ensures.preserves honest).stays opens.state opens.stood) on
          (disk_of c.answer_and_close-outcome.result.1) (answers.crashes (subst IsTrue (sym c.in-Ok.ensures.hands.keeping) on));
    }

pub returns-in-Err-clause-answers : goal.returns-in-Err-clause-answers
returns-in-Err-clause-answers g c = λ honest.
    refuses_file g.D.Disk GREATEST_LIMIT c.args.disk c.in-Err.disk c.in-Err.refusal _ _ (c.in-Err.ensures.opens honest) c.in-Err.ensures.refused
    c.in-Err.ensures.hands.count (c.in-Err.ensures.preserves honest)
