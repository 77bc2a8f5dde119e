-- Its tree does.
use Rattle.rs_attr.proofs.Indexes.{kept_index}
use Rattle.rs_attr.proofs.laws.kept_index_stays.Goals as goal

pub returns : goal.returns
returns c = kept_index
