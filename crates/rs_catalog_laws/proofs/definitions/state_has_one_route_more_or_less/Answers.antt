use Rattle.rs_catalog_laws.proofs.Routes.{state_with_route, state_without_route}
use Rattle.rs_catalog_laws.proofs.definitions.state_has_one_route_more_or_less.Goals as goal

pub returns-clause-more : goal.returns-clause-more
returns-clause-more c = λ definitions name item referents spans rest new free no_referents no_rows. state_with_route definitions name item new referents spans rest no_referents no_rows

pub returns-clause-less : goal.returns-clause-less
returns-clause-less c = λ definitions name item referents spans rest are there no_rows. state_without_route definitions name item there are referents spans rest no_rows
