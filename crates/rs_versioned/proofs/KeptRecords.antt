-- Events are kept so that what becomes of their cells becomes of them.
use Rattle.std.proofs.Common.{◌<◌, ◌^◌, ℕ, List, ◌++◌, arith}
use Rattle.std.specs.Int.{w32, to_be_bytes}
use Rattle.rs_value.specs.declared.column.ColumnType.{ColumnType}
use Rattle.rs_cell_versions.specs.Version.{ended}
use Rattle.rs_versioned.specs.Events.{Event, SaysEvent, ended_event, kept_events}
use Rattle.rs_versioned.specs.Records.{IsKept}
use Rattle.rs_versioned.proofs.EventCells.{event_has_one_cell, event_said_once}
use Rattle.rs_versioned.proofs.CellVersions.{IsVersioned, born_read, died_read, ended_read, length_versioned}

-- what is before an event's birth in its cell
abbrev event_front : Event → List ℕ → List ℕ
event_front event bytes = to_be_bytes w32 event.route ++ (to_be_bytes w32 event.lo ++ bytes)

event_versioned : (types : List ColumnType) (cell : List ℕ) (event : Event) (says : SaysEvent types cell event)
    → IsVersioned cell (event_front event says.bytes) event.born event.hi event.died
event_versioned types cell event says = record { born_fits = says.fields.born_fits; died_fits = says.fields.died_fits; bytes = says.fields.bytes }

event_ends : (types : List ColumnType) (version : ℕ) (cell : List ℕ) (event : Event) → version < 2 ^ 64 → SaysEvent types cell event → SaysEvent types (ended version cell) (ended_event version event)
event_ends types version cell event fits says = record {
  bytes = says.bytes;
  row = says.row;
  fields = record {
    route_fits = says.fields.route_fits;
    from_fits = says.fields.from_fits;
    born_fits = says.fields.born_fits;
    to_fits = says.fields.to_fits;
    died_fits = fits;
    bytes = ended_read version cell (event_front event says.bytes) event.born event.hi event.died (event_versioned types cell event says);
  };
}

pub events_are_kept : (types : List ColumnType) → IsKept (kept_events types)
events_are_kept types = record {
  one = event_said_once types;
  has_one = event_has_one_cell types;
  long = λ cell event says. let size = length_versioned cell (event_front event says.bytes) event.born event.hi event.died (event_versioned types cell event says) in omega arith;
  born = λ cell event says. born_read cell (event_front event says.bytes) event.born event.hi event.died (event_versioned types cell event says);
  died = λ cell event says. died_read cell (event_front event says.bytes) event.born event.hi event.died (event_versioned types cell event says);
  ends = event_ends types;
}
