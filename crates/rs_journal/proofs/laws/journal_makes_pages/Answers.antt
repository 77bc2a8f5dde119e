-- The law, as it is proved of its definitions.
use Rattle.rs_journal.proofs.Making.{makes_pages as law}
use Rattle.rs_journal.proofs.laws.journal_makes_pages.Goals as goal

pub returns : goal.returns
returns c = law
