-- What the cells of a part of a table say and mean: a part has events of one route alone that the accepted version sees.
use Rattle.std.specs.Prelude.{◌≡◌, ◌+◌, ℕ, Bool, true, false, List, [], ◌∷◌, Option, Some, None, filter, map, nat_le}
use Rattle.std.specs.List.{AllByRecursion, AllZip}
use Rattle.std.specs.Cmp.Lexicographic.{slice_cmp}
use Rattle.std.specs.Ordering.{nat_cmp, ordering_then}
use Rattle.std.specs.declared.cmp.Ordering.{Ordering}
use Rattle.std.specs.declared.cmp.Ordering.TheVariants.{Less, Equal, Greater}
use Rattle.rs_attr.specs.declared.meant.RowStretch.{RowStretch}
use Rattle.rs_attr.specs.declared.told.ToldTable.{ToldTable}
use Rattle.rs_facts.specs.Runs.{Stretch, stretch}
use Rattle.rs_facts.specs.Spans.{AreAllRunsOf, IsPlaced, gap_of, places_of}
use Rattle.rs_value.specs.declared.column.ColumnType.{ColumnType}
use Rattle.rs_value.specs.declared.column.Kind.{Kind}
use Rattle.rs_value.specs.Encoding.{SaysRow}
use Rattle.rs_value.specs.Row.{text}
use Rattle.rs_versioned.specs.Events.{Event, SaysEvent, sees_event, span_of}
use Rattle.rs_versioned.specs.Meant.{IsSpanOf}
use Rattle.rs_versioned.specs.declared.route_span.RouteSpan.{RouteSpan}

-- the events that the accepted version sees, and their spans
abbrev pub seen_events : ToldTable → List Event → List Event
seen_events told events = filter (sees_event told.records.accepted) events

abbrev pub seen_spans : ToldTable → List Event → List Stretch
seen_spans told events = map span_of (seen_events told events)

-- a span of the route with this number lies on the route that is given; there may be none
abbrev pub IsOn : Kind → Option RouteSpan → ℕ → Stretch → Type 0
IsOn kind (Some route) number span = (route.number ≡ number) × IsSpanOf kind span route
IsOn kind None number span = ⊥

-- and is one of this kind
abbrev pub IsPlacedOn : Kind → Option RouteSpan → ℕ → Stretch → Type 0
IsPlacedOn kind route number span = IsOn kind route number span × IsPlaced kind span

-- the cells say events, and these are the spans of those that are seen, on the route
pub record SayPlaced (told : ToldTable) (route : Option RouteSpan) (cells : List (List ℕ)) (spans : List Stretch) : Type 0 where
  pub events : List Event
  pub say : AllZip (SaysEvent told.schema.items) cells events
  pub placed : AllByRecursion (λ event. IsPlacedOn told.kind route event.route (span_of event)) (seen_events told events)
  pub are : spans ≡ seen_spans told events

-- the cells say events, and those that are seen lie on the route and are the maximal runs of their facts
pub record SayMeant (told : ToldTable) (route : Option RouteSpan) (cells : List (List ℕ)) : Type 0 where
  pub events : List Event
  pub say : AllZip (SaysEvent told.schema.items) cells events
  pub on : AllByRecursion (λ event. IsOn told.kind route event.route (span_of event)) (seen_events told events)
  pub runs : AreAllRunsOf told.kind (places_of (seen_spans told events)) (seen_spans told events)

-- ---- spans with the bytes of their rows

-- with the bytes as its row
abbrev pub stretch_of : RowStretch → Stretch
stretch_of lent = stretch lent.lo lent.hi (text lent.row.now ∷ [])

abbrev pub stretches_of : Option RowStretch → List Stretch
stretches_of None = []
stretches_of (Some lent) = stretch_of lent ∷ []

-- by the bytes of the row, then by place
abbrev pub lent_cmp : RowStretch → RowStretch → Ordering
lent_cmp a b = ordering_then (slice_cmp nat_cmp a.row.now b.row.now) (nat_cmp a.lo b.lo)

abbrev pub less_or : Ordering → Bool → Bool
less_or Less test = true
less_or Equal test = test
less_or Greater test = false

-- its row's bytes are below those of the next one, or equal, and it ends before the next one begins
abbrev pub comes_before : Kind → RowStretch → RowStretch → Bool
comes_before kind one next = less_or (slice_cmp nat_cmp one.row.now next.row.now) (nat_le (one.hi + gap_of kind) next.lo)

abbrev pub where_equal : Ordering → Bool → Bool → Bool
where_equal Less same other = other
where_equal Equal same other = same
where_equal Greater same other = other

-- it ends where the next one begins or before, and before it where their rows' bytes are equal
abbrev pub lies_before : Kind → RowStretch → RowStretch → Bool
lies_before kind one next = where_equal (slice_cmp nat_cmp one.row.now next.row.now) (nat_le (one.hi + gap_of kind) next.lo) (nat_le one.hi next.lo)

-- the one has the bytes of the other's row as its row
pub record HasBytes (types : List ColumnType) (lent span : Stretch) : Type 0 where
  pub lo : lent.lo ≡ span.lo
  pub hi : lent.hi ≡ span.hi
  pub bytes : List ℕ
  pub row : lent.row ≡ text bytes ∷ []
  pub says : SaysRow types bytes span.row

-- the cells say events, and these are the spans of those that are seen, on the route, with the bytes of their rows
pub record SayStretches (told : ToldTable) (route : Option RouteSpan) (cells : List (List ℕ)) (stretches : List Stretch) : Type 0 where
  pub spans : List Stretch
  pub placed : SayPlaced told route cells spans
  pub are : AllZip (HasBytes told.schema.items) stretches spans
