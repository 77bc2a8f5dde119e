use Rattle.rs_methods.proofs.RouteReferents.{referents_of-put_same, referents_of-put_other}
use Rattle.rs_methods.proofs.referents.put_stands_on_its_route.Goals as goal

pub returns-clause-own : goal.returns-clause-own
returns-clause-own c = λ entries route name measure are. referents_of-put_same route name measure entries are.sorted

pub returns-clause-others : goal.returns-clause-others
returns-clause-others c = λ entries route other name measure apart. referents_of-put_other route other name measure entries apart
