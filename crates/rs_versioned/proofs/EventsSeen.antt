-- Events and referents are seen as records are.
use Rattle.std.proofs.Common.{ℕ, List, refl}
use Rattle.rs_value.specs.declared.column.ColumnType.{ColumnType}
use Rattle.rs_versioned.specs.Events.{Event, kept_events, span_of}
use Rattle.rs_versioned.specs.Referents.{ReferentRecord, kept_referents}
use Rattle.rs_versioned.proofs.SeenAfter.{EndsAs}

abbrev pub event_route : Event → ℕ
event_route event = event.route

abbrev pub referent_route : ReferentRecord → ℕ
referent_route referent = referent.route

abbrev pub referent_shown : ReferentRecord → List ℕ × ℕ
referent_shown referent = (referent.name, referent.measure)

pub events_end : (types : List ColumnType) → EndsAs (kept_events types) event_route span_of
events_end types = record { route = λ version one. refl; shown = λ version one. refl; born = λ version one. refl; died = λ version one. refl }

pub referents_end : EndsAs kept_referents referent_route referent_shown
referents_end = record { route = λ version one. refl; shown = λ version one. refl; born = λ version one. refl; died = λ version one. refl }
