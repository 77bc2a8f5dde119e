-- Part by part.
use Rattle.rs_server.proofs.Reopenings.{parts_go_on}
use Rattle.rs_server.proofs.laws.services_are_of_one_machine.Goals as goal

pub returns : goal.returns
returns g c = λ parts old new machine done is. parts_go_on g.D.Disk c.machine_is_the_only_one.ensures c.disk_stands_for_one_state.ensures.closed parts old new machine done is
