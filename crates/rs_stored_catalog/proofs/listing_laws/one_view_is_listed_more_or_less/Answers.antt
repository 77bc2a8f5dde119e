use Rattle.rs_stored_catalog.proofs.ListedChanges.{view_less, view_more}
use Rattle.rs_stored_catalog.proofs.listing_laws.one_view_is_listed_more_or_less.Goals as goal

pub returns-clause-more : goal.returns-clause-more
returns-clause-more c = view_more

pub returns-clause-less : goal.returns-clause-less
returns-clause-less c = view_less
