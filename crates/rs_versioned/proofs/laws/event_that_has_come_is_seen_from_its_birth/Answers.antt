-- It is one more of those that are seen, or it isn't seen; which columns rows have makes no difference.
use Rattle.std.proofs.Common.{[]}
use Rattle.rs_versioned.specs.Events.{kept_events, span_of}
use Rattle.rs_versioned.proofs.EventsSeen.{event_route}
use Rattle.rs_versioned.proofs.SeenAfter.{before_birth, come_elsewhere, from_birth}
use Rattle.rs_versioned.proofs.laws.event_that_has_come_is_seen_from_its_birth.Goals as goal

pub returns-clause-before : goal.returns-clause-before
returns-clause-before c = before_birth (kept_events []) event_route span_of

pub returns-clause-after : goal.returns-clause-after
returns-clause-after c = from_birth (kept_events []) event_route span_of

pub returns-clause-elsewhere : goal.returns-clause-elsewhere
returns-clause-elsewhere c = come_elsewhere (kept_events []) event_route span_of
