use Rattle.rs_catalog_laws.proofs.Tables.{state_with_table, state_without_table}
use Rattle.rs_catalog_laws.proofs.definitions.state_has_one_table_more_or_less.Goals as goal

pub returns-clause-more : goal.returns-clause-more
returns-clause-more c = λ definitions name item referents spans rest new none. state_with_table definitions name referents spans rest item none

pub returns-clause-less : goal.returns-clause-less
returns-clause-less c = state_without_table
