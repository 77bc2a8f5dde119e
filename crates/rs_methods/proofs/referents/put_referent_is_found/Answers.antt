use Rattle.rs_methods.proofs.Found.{put_found, put_found_other}
use Rattle.rs_methods.proofs.referents.put_referent_is_found.Goals as goal

pub returns-clause-own : goal.returns-clause-own
returns-clause-own c = λ referents name measure. put_found name measure referents

pub returns-clause-others : goal.returns-clause-others
returns-clause-others c = λ referents name other measure apart. put_found_other name other measure referents apart
