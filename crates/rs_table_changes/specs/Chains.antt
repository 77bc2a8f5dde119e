-- Events that end one after another, and spans that come.
use Rattle.std.specs.Prelude.{◌≡◌, ℕ, List, [], ◌∷◌}
use Rattle.rs_cell_versions.specs.declared.cell.TheConstants.{LIVING}
use Rattle.rs_facts.specs.Runs.{Stretch}
use Rattle.rs_value.specs.declared.column.ColumnType.{ColumnType}
use Rattle.rs_versioned.specs.Events.{Event, kept_events}
use Rattle.rs_versioned.specs.Records.{HasEnded, HasOneMore}

-- each of the events has ended at the version, where it was there
abbrev pub EndAll : List ColumnType → ℕ → List Event → List Event → List Event → Type 0
EndAll types version [] old now = now ≡ old
EndAll types version (one ∷ gone) old now = (next : List Event) × HasEnded (kept_events types) version one old next × EndAll types version gone next now

-- the event of a span on a route that is born at a version and lives
abbrev pub living_event : ℕ → ℕ → Stretch → Event
living_event route version span = record { route = route; lo = span.lo; hi = span.hi; row = span.row; born = version; died = LIVING }

-- each of the spans has come, where it was not there
abbrev pub ComeAll : ℕ → ℕ → List Stretch → List Event → List Event → Type 0
ComeAll route version [] old now = now ≡ old
ComeAll route version (span ∷ come) old now = (next : List Event) × HasOneMore (living_event route version span) old next × ComeAll route version come next now

-- the events have ended, and then the spans have come
pub record GivesWayAt (types : List ColumnType) (at version route : ℕ) (gone : List Event) (come : List Stretch) (old now : List Event) : Type 0 where
  pub between : List Event
  pub ended : EndAll types at gone old between
  pub came : ComeAll route version come between now

-- the same, where the events end at the version from which on the spans are seen
abbrev pub GivesWay : List ColumnType → ℕ → ℕ → List Event → List Stretch → List Event → List Event → Type 0
GivesWay types version = GivesWayAt types version version
