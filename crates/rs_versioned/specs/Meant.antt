-- Which records of a version are meant: events that are the maximal runs of a table's facts, and referents, on routes that are there.
use Rattle.std.specs.Prelude.{◌≢◌, ◌≡◌, ◌≤◌, ◌<◌, ℕ, suc, Contains, List, [], ◌∷◌, filter, length, map}
use Rattle.std.specs.List.{AllByRecursion}
use Rattle.rs_facts.specs.Runs.{Stretch}
use Rattle.rs_facts.specs.Fact.{AreDistinct}
use Rattle.rs_methods.specs.declared.limits.TheConstants.{REFERENTS}
use Rattle.rs_methods.specs.Position.{start_name}
use Rattle.rs_lexer.specs.Names.{IsName}
use Rattle.rs_value.specs.declared.column.Kind.{Kind}
use Rattle.rs_value.specs.declared.column.Kind.TheVariants.{Line, Point}
use Rattle.rs_versioned.specs.Events.{Event, sees_event, span_of}
use Rattle.rs_versioned.specs.Records.{is_seen}
use Rattle.rs_versioned.specs.Referents.{ReferentRecord, kept_referents, referents_at}
use Rattle.rs_versioned.specs.Runs.{AreRunsAt}
use Rattle.rs_versioned.specs.declared.route_span.RouteSpan.{RouteSpan}

-- each has a number below those of the routes after it
abbrev pub AreRising : List RouteSpan → Type 0
AreRising [] = Unit {0}
AreRising (route ∷ routes) = AllByRecursion (λ later. route.number < later.number) routes × AreRising routes

-- one of the routes has this number, and this is so of it
pub record HasRoute (routes : List RouteSpan) (number : ℕ) (IsSo : RouteSpan → Type 0) : Type 0 where
  pub route : RouteSpan
  pub there : Contains routes route
  pub numbered : route.number ≡ number
  pub is_so : IsSo route

-- ---- events

-- where spans of a kind end at the latest: lines at the route's end, points a thousandth after it, since one may be at the end
abbrev pub bound_of : Kind → RouteSpan → ℕ
bound_of Line route = route.finish
bound_of Point route = suc route.finish

abbrev pub IsSpanOf : Kind → Stretch → RouteSpan → Type 0
IsSpanOf kind span route = (route.start ≤ span.lo) × (span.hi ≤ bound_of kind route)

-- each event that the version sees lies on one of the routes
abbrev pub LieOnRoutes : List RouteSpan → Kind → ℕ → List Event → Type 0
LieOnRoutes routes kind version events = AllByRecursion (λ event. HasRoute routes event.route (IsSpanOf kind (span_of event))) (filter (sees_event version) events)

-- the version has just the maximal runs of the table's facts, on these routes
pub record AreEventsMeant (routes : List RouteSpan) (kind : Kind) (version : ℕ) (events : List Event) : Type 0 where
  pub runs : (route : ℕ) → AreRunsAt kind version route events
  pub lie : LieOnRoutes routes kind version events

-- ---- referents

abbrev pub IsPlaceOf : ℕ → RouteSpan → Type 0
IsPlaceOf measure route = (route.start ≤ measure) × (measure ≤ route.finish)

-- a name that a line can say, which is not START, at a place of one of the routes
pub record IsReferentMeant (routes : List RouteSpan) (referent : ReferentRecord) : Type 0 where
  pub named : IsName referent.name
  pub not_start : referent.name ≢ start_name
  pub lies : HasRoute routes referent.route (IsPlaceOf referent.measure)

-- each that the version sees is meant; of one route each has a name of its own, and there are no more than there may be
pub record AreReferentsMeant (routes : List RouteSpan) (version : ℕ) (referents : List ReferentRecord) : Type 0 where
  pub each : AllByRecursion (IsReferentMeant routes) (filter (is_seen kept_referents version) referents)
  pub once : (route : ℕ) → AreDistinct (map (λ one. one.0) (referents_at version route referents))
  pub few : (route : ℕ) → length (referents_at version route referents) ≤ REFERENTS
