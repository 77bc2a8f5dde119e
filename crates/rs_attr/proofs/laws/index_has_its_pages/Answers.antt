-- They are its tree's.
use Rattle.rs_attr.proofs.Indexes.{index_pages}
use Rattle.rs_attr.proofs.laws.index_has_its_pages.Goals as goal

pub returns : goal.returns
returns c = index_pages
