-- Which versions of a table have just the maximal runs of their facts, and what a command does to them.
use Rattle.std.specs.Prelude.{◌≡◌, ◌≤◌, ◌⊎◌, ℕ, List, [], ◌∷◌}
use Rattle.rs_facts.specs.Spans.{AreAllRunsOf}
use Rattle.rs_value.specs.declared.column.ColumnType.{ColumnType}
use Rattle.rs_value.specs.declared.column.Kind.{Kind}
use Rattle.rs_cell_versions.specs.declared.cell.TheConstants.{LIVING}
use Rattle.rs_versioned.specs.Events.{Event, facts_at, kept_events, spans_at}
use Rattle.rs_versioned.specs.Records.{HasEnded, HasOneMore}

-- a version has on a route just the maximal runs of its facts
abbrev pub AreRunsAt : Kind → ℕ → ℕ → List Event → Type 0
AreRunsAt kind version route events = AreAllRunsOf kind (facts_at version route events) (spans_at version route events)

-- from the oldest version up to the one that was accepted last, each has on each route just the maximal runs of its facts
pub record AreRunsFrom (kind : Kind) (oldest accepted : ℕ) (events : List Event) : Type 0 where
  pub each : (version route : ℕ) → oldest ≤ version → version ≤ accepted → AreRunsAt kind version route events

-- the same while a command changes one route at a version: this version has just the runs on all other routes
pub record AreRunsBeside (kind : Kind) (oldest accepted version route : ℕ) (events : List Event) : Type 0 where
  pub earlier : AreRunsFrom kind oldest accepted events
  pub elsewhere : (other : ℕ) → (other ≡ route → ⊥) → AreRunsAt kind version other events

-- an event on the route has come that is born at the version, or a living one on the route has ended at it
pub record ChangesOne (types : List ColumnType) (version route : ℕ) (old now : List Event) : Type 0 where
  pub one : Event
  pub on_route : one.route ≡ route
  pub change : ((one.born ≡ version) × HasOneMore one old now) ⊎ ((one.died ≡ LIVING) × HasEnded (kept_events types) version one old now)

-- such changes, one after another: these are the events after each of them
abbrev pub ChangesAll : List ColumnType → ℕ → ℕ → List Event → List (List Event) → List Event → Type 0
ChangesAll types version route old [] now = now ≡ old
ChangesAll types version route old (next ∷ later) now = ChangesOne types version route old next × ChangesAll types version route next later now
