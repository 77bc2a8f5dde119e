use Rattle.rs_machine_laws.proofs.PrintedPositions.{printed-said}
use Rattle.rs_machine_laws.proofs.positions.printed_positions_are_said_by_lines.Goals as goal

pub returns : goal.returns
returns c = λ state route ends method k line place lawful there lies stands.
    printed-said state route lawful c.printed_position_is_read_back.ensures (c.names_of_referents_are_words.ensures state route lawful.referents_named)
    ends method k line place (lawful.routes route ends there) lies stands
