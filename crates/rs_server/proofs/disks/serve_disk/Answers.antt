-- It is served from the state that the disk stood for; or it was not opened.
use Rattle.std.proofs.Common.{IsTrue, inl, inr, subst, sym}
use Rattle.rs_engine.specs.Files.{machine_with}
use Rattle.rs_pages.specs.declared.pages.TheConstants.{GREATEST_LIMIT}
use Rattle.rs_server.proofs.Surviving.{opened_before}
use Rattle.rs_server.proofs.Unopened.{refuses_file}
use Rattle.rs_server.specs.Disks.{disk_of}
use Rattle.rs_server.proofs.disks.serve_disk.Goals as goal

pub returns-in-Ok : goal.returns-in-Ok
returns-in-Ok g c = λ honest.
    let d = g.D.Disk in
    let opens = (c.in-Ok.ensures.opens honest).opens in
    let first = machine_with d opens.state c.in-Ok.engine in
    let serves = c.serve_and_close.ensures first opens.state (c.machine_is_the_only_one.ensures c.in-Ok.engine first opens.is) opens.last in
    inl (record {
      first = first;
      stood = opens.stood;
      failures = c.in-Ok.ensures.hands.count;
      full = (c.in-Ok.ensures.opens honest).opens.full;
      opened = c.in-Ok.engine.store.pager.disk;
      serves = serves;
      crashes = λ on. opened_before d serves.calls first c.args.disk c.in-Ok.engine.store.pager.disk ((c.in-Ok.ensures.preserves honest).stays opens.state opens.stood) on
          (disk_of c.serve_and_close.result) (serves.crashes (subst IsTrue (sym c.in-Ok.ensures.hands.keeping) on));
    })

pub returns-in-Err : goal.returns-in-Err
returns-in-Err g c = λ honest.
    inr (refuses_file g.D.Disk GREATEST_LIMIT c.args.disk c.in-Err.disk c.in-Err.refusal _ _ (c.in-Err.ensures.opens honest) c.in-Err.ensures.refused
    c.in-Err.ensures.hands.count (c.in-Err.ensures.preserves honest))
