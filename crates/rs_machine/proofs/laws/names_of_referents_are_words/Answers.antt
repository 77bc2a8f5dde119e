use Rattle.rs_machine.proofs.ReferentNames.{named_words}
use Rattle.rs_machine.proofs.laws.names_of_referents_are_words.Goals as goal

pub returns : goal.returns
returns c = named_words
