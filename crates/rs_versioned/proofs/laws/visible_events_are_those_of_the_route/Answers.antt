-- What isn't between the bounds holds nothing there.
use Rattle.rs_versioned.proofs.Visible.{visible_between, visible_within}
use Rattle.rs_versioned.proofs.laws.visible_events_are_those_of_the_route.Goals as goal

pub returns-clause-whole : goal.returns-clause-whole
returns-clause-whole c = λ version route b. visible_within version route 0 b

pub returns-clause-between : goal.returns-clause-between
returns-clause-between c = λ version route a b k events from below. visible_between version route a b k from below events
