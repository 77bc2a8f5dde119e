-- The disk stands for the one state, and for the other.
use Rattle.rs_server.proofs.laws.next_service_goes_on.Goals as goal

pub returns : goal.returns
returns g c = λ limit old disk next a b c' d e f g' h one other.
    c.disk_stands_for_one_state.ensures.closed limit limit (g.D.Disk.seen disk) other.first.state _ other.stood one.serves.closes.closed.stands
