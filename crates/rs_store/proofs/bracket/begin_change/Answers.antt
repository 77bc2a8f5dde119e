-- Room is made, and then the pager begins.
use Rattle.std.proofs.lemmas.Result.{err_from_is_err_and}
use Rattle.rs_store.proofs.Begun.{begins_made, begins_none}
use Rattle.rs_store.proofs.bracket.begin_change.Goals as goal

pub returns-in_err-make_room-clause-begins : goal.returns-in_err-make_room-clause-begins
returns-in_err-make_room-clause-begins g c =
    let p = err_from_is_err_and c.from_residual.result c.from_residual.ensures.1 in
    rw (p.1, p.2) (begins_none g.D.Disk c.args.pager.now c.make_room.new.self c.make_room.ensures.keeps c.make_room.ensures.lasts c.in_err-make_room.field-0.0
    c.in_err-make_room.ensures.refused c.in_err-make_room.ensures.refusal c.in_err-make_room.ensures.count)

pub returns-clause-begins : goal.returns-clause-begins
returns-clause-begins g c =
    begins_made g.D.Disk c.args.pager.now c.make_room.new.self c.make_room.ensures.keeps c.make_room.ensures.lasts c.begin.new.self c.begin.ensures.begins c.begin.ensures.keeps
    c.make_room.ensures.few c.in_ok-make_room.ensures.many c.make_room.ensures.copies c.make_room.ensures.same c.in_ok-make_room.ensures.count
