-- Referents are kept as a table asks.
use Rattle.rs_versioned.proofs.KeptReferents.{referents_are_kept}
use Rattle.rs_versioned.proofs.referent_table.RecordTable+Referents.with.Goals as goal

pub invariant_of-result : goal.invariant_of-result
invariant_of-result c = (c.requires.width, referents_are_kept)
