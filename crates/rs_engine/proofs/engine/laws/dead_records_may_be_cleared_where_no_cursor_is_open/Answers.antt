-- A bound that no cursor lowers is the greatest.
use Rattle.std.proofs.Common.{◌≤◌, arith}
use Rattle.rs_engine.proofs.Nobody.{nobody_waits}
use Rattle.rs_engine.proofs.engine.laws.dead_records_may_be_cleared_where_no_cursor_is_open.Goals as goal

pub returns-clause-oldest : goal.returns-clause-oldest
returns-clause-oldest g c engine machine is none oldest least =
    let last = engine.store.file.accepted in
    let all : last ≤ oldest = least.greatest last (omega arith) (λ session name cursor there. absurd (nobody_waits g.D.Disk engine machine is none session name cursor there)) in
    omega (arith, all, least.within)

pub returns-clause-dead : goal.returns-clause-dead
returns-clause-dead g c engine machine is = c.dead_records_may_be_cleared.ensures engine.store is.stands.contents is.stands.keeps
