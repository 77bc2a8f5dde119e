-- What a version sees of the contents of a file: by the numbers of tables and routes.
use Rattle.std.specs.Prelude.{◌==◌, ℕ, Bool, nat_le, List, [], ◌∷◌, filter, if◌then◌else◌, map}
use Rattle.std.specs.FinMap as names
use Rattle.rs_catalog_pages.specs.Items.{RouteItem, TableItem}
pub use Rattle.rs_file.specs.Meant.{span_of_route}
use Rattle.rs_facts.specs.Fact.{Name, Names}
use Rattle.rs_facts.specs.Runs.{Stretch}
use Rattle.rs_file.specs.Contents.{Contents, TableContents}
use Rattle.rs_versioned.specs.Events.{Event, sees_event, span_of, spans_at}
use Rattle.rs_versioned.specs.Records.{is_seen}
use Rattle.rs_versioned.specs.Referents.{ReferentRecord, kept_referents, referents_at}
use Rattle.rs_versioned.specs.declared.route_span.RouteSpan.{RouteSpan}

-- ---- routes

-- the version sees the route
abbrev pub is_born : ℕ → RouteItem → Bool
is_born version route = nat_le route.born version

-- the routes that the version sees, in their order
abbrev pub born_by : ℕ → List RouteItem → List RouteItem
born_by version routes = filter (is_born version) routes

-- the same by their numbers and measures
abbrev pub routes_at : ℕ → List RouteItem → List RouteSpan
routes_at version routes = map span_of_route (born_by version routes)

-- ---- records

-- what is seen of an event: its route and its span, and not when it ends
abbrev pub seen_event : Event → ℕ × Stretch
seen_event event = (event.route, span_of event)

-- what the version sees of these events
abbrev pub seen_events : ℕ → List Event → List (ℕ × Stretch)
seen_events version events = map seen_event (filter (sees_event version) events)

-- what is seen of a referent: its route, its name and its measure
abbrev pub seen_referent : ReferentRecord → ℕ × (Name × ℕ)
seen_referent referent = (referent.route, (referent.name, referent.measure))

-- what the version sees of these referents
abbrev pub seen_referents : ℕ → List ReferentRecord → List (ℕ × (Name × ℕ))
seen_referents version referents = map seen_referent (filter (is_seen kept_referents version) referents)

-- ---- contents

-- the events of the table with this number; none where no table has it
abbrev pub events_with : List TableItem → List TableContents → ℕ → List Event
events_with [] tables number = []
events_with (item ∷ items) [] number = []
events_with (item ∷ items) (table ∷ tables) number = if item.number == number then table.events else events_with items tables number

abbrev pub events_of : Contents → ℕ → List Event
events_of contents table = events_with contents.definitions.tables contents.tables table

-- the spans that the version sees of a table on a route
abbrev pub spans_seen : Contents → ℕ → ℕ → ℕ → List Stretch
spans_seen contents version table route = spans_at version route (events_of contents table)

-- the referents that the version sees on a route
abbrev pub referents_seen : Contents → ℕ → ℕ → Names ℕ
referents_seen contents version route = names.from_entries (referents_at version route contents.referents.referents)
