use Rattle.rs_machine_laws.proofs.ViewLines.{shortest_says}
use Rattle.rs_machine_laws.proofs.ShortestLines.{readable_asks, shortest_asks, shortest_readable}
use Rattle.rs_machine_laws.proofs.view_lines.shortest_line_defines_the_view.Goals as goal

pub returns-clause-words : goal.returns-clause-words
returns-clause-words c = shortest_says

pub returns-clause-line : goal.returns-clause-line
returns-clause-line c = shortest_asks c.command_of_a_line_is_sound.ensures

pub returns-clause-readable : goal.returns-clause-readable
returns-clause-readable c = shortest_readable c.command_of_a_line_is_sound.ensures

pub returns-clause-asks : goal.returns-clause-asks
returns-clause-asks c = readable_asks
