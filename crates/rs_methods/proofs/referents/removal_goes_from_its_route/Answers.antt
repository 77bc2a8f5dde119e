use Rattle.rs_methods.proofs.RouteReferents.{referents_of-filter_same, referents_of-filter_other}
use Rattle.rs_methods.proofs.referents.removal_goes_from_its_route.Goals as goal

pub returns-clause-own : goal.returns-clause-own
returns-clause-own c = λ entries route name. referents_of-filter_same route name entries

pub returns-clause-others : goal.returns-clause-others
returns-clause-others c = λ entries route other name apart. referents_of-filter_other route other name entries apart
