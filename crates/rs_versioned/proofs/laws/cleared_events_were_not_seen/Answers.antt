-- Those that are gone had died.
use Rattle.rs_versioned.specs.Events.{kept_events, span_of}
use Rattle.rs_versioned.proofs.EventsSeen.{event_route}
use Rattle.rs_versioned.proofs.SeenAfter.{unseen_cleared}
use Rattle.rs_versioned.proofs.laws.cleared_events_were_not_seen.Goals as goal

pub returns : goal.returns
returns c = λ types oldest version route. unseen_cleared (kept_events types) event_route span_of version route oldest
