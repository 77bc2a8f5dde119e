-- No referents are in a tree of no cells.
use Rattle.std.proofs.Common.{[]}
use Rattle.rs_versioned.proofs.KeptReferents.{referents_are_kept}
use Rattle.rs_versioned.proofs.referent_table.RecordTable+Referents.new.Goals as goal

pub invariant_of-result : goal.invariant_of-result
invariant_of-result c = (c.new.ensures.width, referents_are_kept)

pub returns-clause-empty : goal.returns-clause-empty
returns-clause-empty c = λ pages accepted. record { cells = []; holds = c.new.ensures.empty pages; say = tt; dated = tt }
