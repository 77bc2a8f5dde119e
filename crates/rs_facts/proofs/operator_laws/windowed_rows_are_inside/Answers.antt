use Rattle.rs_facts.proofs.RowSets.{contains-windowed}
use Rattle.rs_facts.proofs.operator_laws.windowed_rows_are_inside.Goals as goal

pub returns : goal.returns
returns c = contains-windowed
