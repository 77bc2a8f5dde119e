-- The file is closed with nothing in it; or it was not made.
use Rattle.std.proofs.Common.{inl, refl}
use Rattle.rs_engine.specs.Files.{machine_with}
use Rattle.rs_machine.specs.State.{fresh}
use Rattle.rs_server.proofs.disks.create_on.Goals as goal

pub returns-in-Ok : goal.returns-in-Ok
returns-in-Ok g c = λ honest.
    let first = machine_with g.D.Disk fresh c.in-Ok.engine in
    inl (first, refl, c.in-Ok.ensures.hands.count, c.close_after.ensures.closes first (c.machine_is_the_only_one.ensures c.in-Ok.engine first (c.in-Ok.ensures.creates honest).fresh))
