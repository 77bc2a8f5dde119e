use Rattle.rs_machine_laws.proofs.PrintedPositions.{printed-lies}
use Rattle.rs_machine_laws.proofs.positions.printed_positions_lie_where_they_were.Goals as goal

pub returns : goal.returns
returns c = λ state route ends method k lawful there lies.
    printed-lies state route lawful c.ceiling_rounds_up.ensures.not_below c.ceiling_rounds_up.ensures.by_less ends method k (lawful.routes route ends there) lies
