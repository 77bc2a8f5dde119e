use Rattle.rs_catalog_laws.proofs.OtherReferents.{referents_there, state_with_referents}
use Rattle.rs_catalog_laws.proofs.referents.state_has_other_referents_on_a_route.Goals as goal

pub returns-clause-others : goal.returns-clause-others
returns-clause-others c = state_with_referents

pub returns-clause-there : goal.returns-clause-there
returns-clause-there c = λ definitions name item referents spans rest there. referents_there definitions name item referents there
