-- What versions see of events and referents that change, and what follows where they see the same.
use Rattle.std.proofs.Common.{◌≡◌, ◌<◌, ℕ, List, [], ◌∷◌, map, filter, refl, sym, subst, arith}
use Rattle.std.specs.Prelude.{◌≢◌}
use Rattle.std.specs.List.Sorted.{IsPermutation}
use Rattle.std.proofs.lemmas.List.Sorted.{IsPermutation-sym, length_permutation}
use Rattle.rs_versioned.specs.TheConstants.{LIVING}
use Rattle.rs_facts.specs.Fact.{Name}
use Rattle.rs_facts.specs.Runs.{Stretch}
use Rattle.rs_facts.specs.Spans.{AreOnce}
use Rattle.rs_machine.specs.Lawful.{AreDistinct}
use Rattle.rs_value.specs.declared.column.ColumnType.{ColumnType}
use Rattle.rs_value.specs.declared.column.Kind.{Kind}
use Rattle.rs_versioned.specs.Events.{Event, kept_events, sees_event, span_of, spans_at}
use Rattle.rs_versioned.specs.Meant.{AreEventsMeant, AreReferentsMeant, HasRoute, IsReferentMeant, IsSpanOf}
use Rattle.rs_versioned.specs.Records.{HasCleared, HasEnded, HasOneMore, is_seen}
use Rattle.rs_versioned.specs.Referents.{ReferentRecord, kept_referents, referents_at}
use Rattle.rs_versioned.specs.Runs.{AreRunsAt, AreRunsFrom}
use Rattle.rs_versioned.specs.declared.route_span.RouteSpan.{RouteSpan}
use Rattle.rs_versioned.proofs.EventsSeen.{event_route, referent_route, referent_shown}
use Rattle.rs_versioned.proofs.SameRuns.{once_shuffled, runs_shuffled}
use Rattle.rs_versioned.proofs.SeenAfter.{EndsAs}
use Rattle.rs_file_meaning.specs.Live.{HaveOwnNames, KeepsEvents, KeepsReferents}
use Rattle.rs_file_meaning.specs.Seen.{seen_event, seen_events, seen_referent, seen_referents}
use Rattle.rs_file_meaning.proofs.Lists.{each_at, each_moved, each_shown, each_weaker, shown_each}
use Rattle.rs_file_meaning.proofs.OnRoute.{keeps_cleared, keeps_come, keeps_ended, on, on_moved, on_seen}
use Rattle.rs_file_meaning.proofs.SameNames.{distinct_moved}

-- ---- events

events_end : (types : List ColumnType) → EndsAs (kept_events types) (λ event. 0) seen_event
events_end types = record { route = λ version one. refl; shown = λ version one. refl; born = λ version one. refl; died = λ version one. refl }

pub spans_on : (version route : ℕ) (events : List Event) → on route (seen_events version events) ≡ spans_at version route events
spans_on = on_seen (kept_events []) event_route span_of

-- on a route a version has the spans that another had, where the one sees what the other saw
pub spans_alike : (from to route : ℕ) (one other : List Event) → IsPermutation (seen_events to other) (seen_events from one) → IsPermutation (spans_at to route other) (spans_at from route one)
spans_alike from to route one other same =
    subst (λ (spans : List Stretch). IsPermutation spans (spans_at from route one)) (spans_on to route other)
    (subst (λ (spans : List Stretch). IsPermutation (on route (seen_events to other)) spans) (spans_on from route one) (on_moved route (seen_events to other) (seen_events from one) same))

pub runs_alike : (kind : Kind) (from to route : ℕ) (one other : List Event) → IsPermutation (seen_events to other) (seen_events from one) → AreRunsAt kind from route one → AreRunsAt kind to route other
runs_alike kind from to route one other same =
    runs_shuffled kind (spans_at from route one) (spans_at to route other) (IsPermutation-sym (spans_at to route other) (spans_at from route one) (spans_alike from to route one other same))

pub events_alike : (routes : List RouteSpan) (kind : Kind) (from to : ℕ) (one other : List Event) → IsPermutation (seen_events to other) (seen_events from one)
    → AreEventsMeant routes kind from one → AreEventsMeant routes kind to other
events_alike routes kind from to one other same meant = record {
  runs = λ route. runs_alike kind from to route one other same (meant.runs route);
  lie = shown_each seen_event Lies (filter (sees_event to) other)
      (each_moved Lies (seen_events from one) (seen_events to other) (IsPermutation-sym (seen_events to other) (seen_events from one) same)
      (each_shown seen_event Lies (filter (sees_event from) one) meant.lie));
}
  where
    Lies : ℕ × Stretch → Type 0
    Lies seen = HasRoute routes seen.0 (IsSpanOf kind seen.1)

pub event_comes : (oldest accepted : ℕ) (one : Event) (old now : List Event) → HasOneMore one old now → accepted < one.born → KeepsEvents oldest accepted old now
event_comes = keeps_come (kept_events []) event_route span_of (events_end [])

pub events_cleared : (oldest accepted : ℕ) (types : List ColumnType) (cells : List (List ℕ)) (old now : List Event) → HasCleared (kept_events types) oldest cells old now → KeepsEvents oldest accepted old now
events_cleared oldest accepted types = keeps_cleared (kept_events types) event_route span_of (events_end types) oldest accepted

pub event_ends : (kind : Kind) (oldest accepted : ℕ) (types : List ColumnType) (at : ℕ) (one : Event) (old now : List Event) → AreRunsFrom kind oldest accepted old → HasEnded (kept_events types) at one old now
    → one.died ≡ LIVING → accepted < at → at < LIVING → KeepsEvents oldest accepted old now
event_ends kind oldest accepted types at one old now runs ended living late below =
    keeps_ended (kept_events types) event_route span_of (events_end types) oldest accepted at one old now ended living late below
    (λ version low high span rest moved there. each_at (λ other. span ≢ other) rest span
    (once_shuffled (on one.route (seen_events version old)) (span ∷ rest) moved
    (subst (λ spans. AreOnce spans) (sym (spans_on version one.route old)) (runs.each version one.route low high).once)).0 there refl)

pub runs_kept : (kind : Kind) (oldest accepted : ℕ) (old now : List Event) → KeepsEvents oldest accepted old now → AreRunsFrom kind oldest accepted old → AreRunsFrom kind oldest accepted now
runs_kept kind oldest accepted old now keeps runs = record { each = λ version route low high. runs_alike kind version version route old now (keeps.each version low high) (runs.each version route low high) }

-- ---- referents

referents_end : EndsAs kept_referents (λ referent. 0) seen_referent
referents_end = record { route = λ version one. refl; shown = λ version one. refl; born = λ version one. refl; died = λ version one. refl }

pub referents_on : (version route : ℕ) (referents : List ReferentRecord) → on route (seen_referents version referents) ≡ referents_at version route referents
referents_on = on_seen kept_referents referent_route referent_shown

pub marks_alike : (from to route : ℕ) (one other : List ReferentRecord) → IsPermutation (seen_referents to other) (seen_referents from one)
    → IsPermutation (referents_at from route one) (referents_at to route other)
marks_alike from to route one other same =
    IsPermutation-sym (referents_at to route other) (referents_at from route one)
    (subst (λ (marks : List (Name × ℕ)). IsPermutation marks (referents_at from route one)) (referents_on to route other)
    (subst (λ (marks : List (Name × ℕ)). IsPermutation (on route (seen_referents to other)) marks) (referents_on from route one) (on_moved route (seen_referents to other) (seen_referents from one) same)))

pub referents_alike : (routes : List RouteSpan) (from to : ℕ) (one other : List ReferentRecord) → IsPermutation (seen_referents to other) (seen_referents from one)
    → AreReferentsMeant routes from one → AreReferentsMeant routes to other
referents_alike routes from to one other same meant = record {
  each = each_weaker (λ referent. Lies (seen_referent referent)) (IsReferentMeant routes) (λ referent is. record { named = is.named; not_start = is.not_start; lies = is.lies }) (filter (is_seen kept_referents to) other)
      (shown_each seen_referent Lies (filter (is_seen kept_referents to) other)
      (each_moved Lies (seen_referents from one) (seen_referents to other) (IsPermutation-sym (seen_referents to other) (seen_referents from one) same)
      (each_shown seen_referent Lies (filter (is_seen kept_referents from) one)
      (each_weaker (IsReferentMeant routes) (λ referent. Lies (seen_referent referent)) (λ referent is. record { named = is.named; not_start = is.not_start; lies = is.lies })
      (filter (is_seen kept_referents from) one) meant.each))));
  once = λ route. distinct_moved (referents_at from route one) (referents_at to route other) (marks_alike from to route one other same) (meant.once route);
  few = λ route. omega (arith, meant.few route, length_permutation (referents_at from route one) (referents_at to route other) (marks_alike from to route one other same));
}
  where
    Lies : ℕ × (Name × ℕ) → Type 0
    Lies seen = IsReferentMeant routes (record { route = seen.0; name = seen.1.0; measure = seen.1.1; born = 0; died = 0 })

pub referent_comes : (oldest accepted : ℕ) (one : ReferentRecord) (old now : List ReferentRecord) → HasOneMore one old now → accepted < one.born → KeepsReferents oldest accepted old now
referent_comes = keeps_come kept_referents referent_route referent_shown referents_end

pub referents_cleared : (oldest accepted : ℕ) (cells : List (List ℕ)) (old now : List ReferentRecord) → HasCleared kept_referents oldest cells old now → KeepsReferents oldest accepted old now
referents_cleared = keeps_cleared kept_referents referent_route referent_shown referents_end

pub referent_ends : (oldest accepted at : ℕ) (one : ReferentRecord) (old now : List ReferentRecord) → HaveOwnNames oldest accepted old → HasEnded kept_referents at one old now
    → one.died ≡ LIVING → accepted < at → at < LIVING → KeepsReferents oldest accepted old now
referent_ends oldest accepted at one old now names ended living late below =
    keeps_ended kept_referents referent_route referent_shown referents_end oldest accepted at one old now ended living late below
    (λ version low high mark rest moved there. each_at (λ (other : Name × ℕ). mark.0 ≢ other.0) rest mark
    (shown_each (λ (other : Name × ℕ). other.0) (λ other. mark.0 ≢ other) rest
    (distinct_moved (on one.route (seen_referents version old)) (mark ∷ rest) moved
    (subst (λ (marks : List (Name × ℕ)). AreDistinct (map (λ m. m.0) marks)) (sym (referents_on version one.route old)) (names.each version one.route low high))).0) there refl)

pub names_kept : (oldest accepted : ℕ) (old now : List ReferentRecord) → KeepsReferents oldest accepted old now → HaveOwnNames oldest accepted old → HaveOwnNames oldest accepted now
names_kept oldest accepted old now keeps names = record {
  each = λ version route low high.
      distinct_moved (referents_at version route old) (referents_at version route now) (marks_alike version version route old now (keeps.each version low high)) (names.each version route low high);
}
