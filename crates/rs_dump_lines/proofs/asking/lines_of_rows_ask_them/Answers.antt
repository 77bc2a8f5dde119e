use Rattle.rs_dump_lines.proofs.AllLines.{along_said, at_said}
use Rattle.rs_dump_lines.proofs.asking.lines_of_rows_ask_them.Goals as goal

pub returns-clause-along : goal.returns-clause-along
returns-clause-along c = along_said

pub returns-clause-at : goal.returns-clause-at
returns-clause-at c = at_said
