use Rattle.rs_dump_lines.proofs.AllLines.{alignment_said, table_said}
use Rattle.rs_dump_lines.proofs.Defining.{index_asks, referent_asks, route_asks}
use Rattle.rs_dump_lines.proofs.asking.lines_of_definitions_ask_them.Goals as goal

pub returns-clause-route : goal.returns-clause-route
returns-clause-route c = λ name start finish sound readable. route_asks name start finish sound.0 sound.1 sound.2 readable

pub returns-clause-referent : goal.returns-clause-referent
returns-clause-referent c = λ route name measure sound readable. referent_asks route name measure sound.0 sound.1 sound.2 readable

pub returns-clause-table : goal.returns-clause-table
returns-clause-table c = table_said

pub returns-clause-alignment : goal.returns-clause-alignment
returns-clause-alignment c = alignment_said

pub returns-clause-index : goal.returns-clause-index
returns-clause-index c = λ name table column sound readable. index_asks name table column sound.0 sound.1 sound.2 readable
