use Rattle.rs_machine_laws.proofs.NamedColumns.{checked-named}
use Rattle.rs_machine_laws.proofs.plans.checked_queries_name_their_columns.Goals as goal

pub returns : goal.returns
returns c = checked-named
