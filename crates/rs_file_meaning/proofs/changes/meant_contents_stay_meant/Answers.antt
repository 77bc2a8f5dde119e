use Rattle.rs_file_meaning.proofs.KeptMeaning.{fewer, same_meant, says_same}
use Rattle.rs_file_meaning.proofs.changes.meant_contents_stay_meant.Goals as goal

pub returns-clause-fewer : goal.returns-clause-fewer
returns-clause-fewer c = fewer

pub returns-clause-same : goal.returns-clause-same
returns-clause-same c = same_meant

pub returns-clause-says : goal.returns-clause-says
returns-clause-says c = says_same
