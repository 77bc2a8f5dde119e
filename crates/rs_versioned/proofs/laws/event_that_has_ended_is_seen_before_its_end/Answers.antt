-- Before its end it makes no difference that it ends.
use Rattle.std.proofs.Common.{◌<◌, ℕ, sym, subst, arith}
use Rattle.rs_versioned.specs.Events.{kept_events, span_of}
use Rattle.rs_versioned.proofs.EventsSeen.{event_route, events_end}
use Rattle.rs_versioned.proofs.RunsByVersion.{facts_before_end}
use Rattle.rs_versioned.proofs.SeenAfter.{before_end, ended_elsewhere, from_end}
use Rattle.rs_versioned.proofs.laws.event_that_has_ended_is_seen_before_its_end.Goals as goal

pub returns-clause-before : goal.returns-clause-before
returns-clause-before c = λ types version at route one old now ended new living below before.
    before_end (kept_events types) event_route span_of (events_end types) version at route one old now ended new before (subst (λ (n : ℕ). at < n) (sym living) (omega (arith, below, before)))

pub returns-clause-facts_before : goal.returns-clause-facts_before
returns-clause-facts_before c = facts_before_end

pub returns-clause-after : goal.returns-clause-after
returns-clause-after c = λ types version at one old now gone living born below past.
    from_end (kept_events types) event_route span_of (events_end types) version at one old now gone born (subst (λ (n : ℕ). at < n) (sym living) below) past

pub returns-clause-elsewhere : goal.returns-clause-elsewhere
returns-clause-elsewhere c = λ types. ended_elsewhere (kept_events types) event_route span_of (events_end types)
