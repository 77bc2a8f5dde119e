use Rattle.rs_file_meaning.specs.Seen.{seen_referents}
use Rattle.rs_file_meaning.proofs.OnRoute.{keeps_fewer, keeps_joined, keeps_same}
use Rattle.rs_file_meaning.proofs.SeenRecords.{names_kept, referent_comes, referent_ends, referents_cleared}
use Rattle.rs_file_meaning.proofs.live.live_versions_see_their_referents.Goals as goal

pub returns-clause-unchanged : goal.returns-clause-unchanged
returns-clause-unchanged c = keeps_same seen_referents

pub returns-clause-joined : goal.returns-clause-joined
returns-clause-joined c = keeps_joined seen_referents

pub returns-clause-fewer : goal.returns-clause-fewer
returns-clause-fewer c = keeps_fewer seen_referents

pub returns-clause-come : goal.returns-clause-come
returns-clause-come c = referent_comes

pub returns-clause-ended : goal.returns-clause-ended
returns-clause-ended c = referent_ends

pub returns-clause-cleared : goal.returns-clause-cleared
returns-clause-cleared c = referents_cleared

pub returns-clause-names : goal.returns-clause-names
returns-clause-names c = names_kept
