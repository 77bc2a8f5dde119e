use Rattle.rs_stored_catalog.proofs.ListedChanges.{table_less, table_more}
use Rattle.rs_stored_catalog.proofs.listing_laws.one_table_is_listed_more_or_less.Goals as goal

pub returns-clause-more : goal.returns-clause-more
returns-clause-more c = table_more

pub returns-clause-less : goal.returns-clause-less
returns-clause-less c = table_less
