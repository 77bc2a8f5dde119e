use Rattle.rs_machine.proofs.ReferentNames.{fresh_named}
use Rattle.rs_machine.proofs.laws.fresh_referents_are_named.Goals as goal

pub returns : goal.returns
returns c = fresh_named
