use Rattle.rs_stored_catalog.proofs.ListedChanges.{alignment_less, alignment_more}
use Rattle.rs_stored_catalog.proofs.listing_laws.one_alignment_is_listed_more_or_less.Goals as goal

pub returns-clause-more : goal.returns-clause-more
returns-clause-more c = alignment_more

pub returns-clause-less : goal.returns-clause-less
returns-clause-less c = alignment_less
