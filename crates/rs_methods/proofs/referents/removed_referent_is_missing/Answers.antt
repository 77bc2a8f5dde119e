use Rattle.rs_methods.proofs.Found.{removed_missing, removed_found_other}
use Rattle.rs_methods.proofs.referents.removed_referent_is_missing.Goals as goal

pub returns-clause-own : goal.returns-clause-own
returns-clause-own c = λ referents name. removed_missing name referents

pub returns-clause-others : goal.returns-clause-others
returns-clause-others c = λ referents name other apart. removed_found_other name other referents apart
