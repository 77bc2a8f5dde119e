-- The law, as it is proved of its definitions.
use Rattle.std.proofs.Common.{inl, inr}
use Rattle.rs_checkpoint.proofs.Kept.{kept_from_home}
use Rattle.rs_checkpoint.proofs.laws.committed_pages_are_kept_from_home_on.Goals as goal

pub returns-clause-home : goal.returns-clause-home
returns-clause-home g c = λ pager tied home. kept_from_home g.D.Disk pager tied (inl home)

pub returns-clause-closing : goal.returns-clause-closing
returns-clause-closing g c = λ pager tied closing. kept_from_home g.D.Disk pager tied (inr closing)
