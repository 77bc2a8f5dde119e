-- What one cell after the other tells of the events of a part.
use Rattle.std.proofs.Common.{◌≡◌, ◌+◌, ℕ, zero, suc, Bool, true, false, cond, None, Some, Option, List, [], ◌∷◌, ◌++◌, map, take, slice_get, refl, sym, ap, ◌∙◌, subst, arith}
use Rattle.std.proofs.lemmas.List.{map-append}
use Rattle.std.proofs.lemmas.List.Elements.{filter-append}
use Rattle.std.specs.List.{AllByRecursion, AllZip}
use Rattle.rs_attr.specs.Meant.{IsOn, IsPlacedOn, SayMeant, SayPlaced, seen_events, seen_spans}
use Rattle.rs_attr.specs.declared.told.ToldTable.{ToldTable}
use Rattle.rs_cell_versions.specs.Version.{sees}
use Rattle.rs_facts.specs.Runs.{IsMaximalRun, Stretch, stretch}
use Rattle.rs_facts.specs.Spans.{AreAllRunsOf, ArePlaced, places_of}
use Rattle.rs_tree.proofs.Lists.{take_next}
use Rattle.rs_value.specs.Row.{Row}
use Rattle.rs_value.specs.declared.column.Kind.{Kind}
use Rattle.rs_value.specs.declared.column.Kind.TheVariants.{Line, Point}
use Rattle.rs_versioned.specs.Events.{Event, SaysEvent, kept_events, sees_event, span_of}
use Rattle.rs_versioned.specs.declared.route_span.RouteSpan.{RouteSpan}
use Rattle.rs_versioned.proofs.EventCells.{event_said_once}
use Rattle.rs_versioned.proofs.KeptRecords.{events_are_kept}
use Rattle.rs_versioned.proofs.Lifting.{zip_join}
use Rattle.rs_versioned.proofs.Overlapping.{sees_record}

-- where a span lies its row doesn't tell
pub placed_with : (kind : Kind) (route : Option RouteSpan) (number lo hi : ℕ) (row other : Row) → IsPlacedOn kind route number (stretch lo hi row) → IsPlacedOn kind route number (stretch lo hi other)
placed_with Line None number lo hi row other on = on
placed_with Line (Some span) number lo hi row other on = on
placed_with Point None number lo hi row other on = on
placed_with Point (Some span) number lo hi row other on = on

module _ (told : ToldTable) (route : Option RouteSpan) where
  abbrev IsSeenOn : Event → Type 0
  IsSeenOn event = IsPlacedOn told.kind route event.route (span_of event)

  -- ---- one cell

  pub one_said : (cell : List ℕ) (spans : List Stretch) → SayPlaced told route (cell ∷ []) spans → (event : Event) × SaysEvent told.schema.items cell event
  one_said cell spans so = by so.events so.say where
    by : (events : List Event) → AllZip (SaysEvent told.schema.items) (cell ∷ []) events → (event : Event) × SaysEvent told.schema.items cell event
    by [] say = absurd say
    by (e ∷ es) say = (e, say.0)

  module _ (cell : List ℕ) (event : Event) (says : SaysEvent told.schema.items cell event) where
    seen_so : (b : Bool) → sees told.records.accepted cell ≡ b → sees_event told.records.accepted event ≡ b
    seen_so b is = sym (sees_record (kept_events told.schema.items) (events_are_kept told.schema.items) told.records.accepted cell event says) ∙ is

    pub placed_unseen : sees told.records.accepted cell ≡ false → SayPlaced told route (cell ∷ []) []
    placed_unseen isnt =
        let none : seen_events told (event ∷ []) ≡ [] = ap (λ (b : Bool). cond b (event ∷ []) []) (seen_so false isnt) in
        record {
          events = event ∷ [];
          say = (says, tt);
          placed = subst (AllByRecursion IsSeenOn) (sym none) tt;
          are = sym (ap (map span_of) none);
        }

    pub placed_seen : (span : Stretch) → sees told.records.accepted cell ≡ true → span ≡ span_of event → IsSeenOn event → SayPlaced told route (cell ∷ []) (span ∷ [])
    placed_seen span is same on =
        let one : seen_events told (event ∷ []) ≡ event ∷ [] = ap (λ (b : Bool). cond b (event ∷ []) []) (seen_so true is) in
        record {
          events = event ∷ [];
          say = (says, tt);
          placed = subst (AllByRecursion IsSeenOn) (sym one) (on, tt);
          are = ap (λ (s : Stretch). s ∷ []) same ∙ sym (ap (map span_of) one);
        }

    pub placed_nowhere : sees told.records.accepted cell ≡ true → (IsSeenOn event → ⊥) → (spans : List Stretch) → SayPlaced told route (cell ∷ []) spans → ⊥
    placed_nowhere is off spans so = by so.events so.say so.placed where
      by : (events : List Event) → AllZip (SaysEvent told.schema.items) (cell ∷ []) events → AllByRecursion IsSeenOn (seen_events told events) → ⊥
      by [] say placed = say
      by (e ∷ f ∷ es) say placed = say.1
      by (e ∷ []) say placed =
          let same : e ≡ event = event_said_once told.schema.items cell e event say.0 says in
          let one : seen_events told (e ∷ []) ≡ event ∷ [] = ap (λ (o : Event). seen_events told (o ∷ [])) same ∙ ap (λ (b : Bool). cond b (event ∷ []) []) (seen_so true is) in
          off (subst (AllByRecursion IsSeenOn) one placed).0

  -- ---- cells

  both_on : (P : Event → Type 0) (xs ys : List Event) → AllByRecursion P xs → AllByRecursion P ys → AllByRecursion P (xs ++ ys)
  both_on P [] ys one other = other
  both_on P (x ∷ xs) ys one other = (one.0, both_on P xs ys one.1 other)

  placed_both : (xs ys : List (List ℕ)) (ss ts : List Stretch) → SayPlaced told route xs ss → SayPlaced told route ys ts → SayPlaced told route (xs ++ ys) (ss ++ ts)
  placed_both xs ys ss ts one other =
      let parted : seen_events told (one.events ++ other.events) ≡ seen_events told one.events ++ seen_events told other.events = filter-append (sees_event told.records.accepted) one.events other.events in
      record {
        events = one.events ++ other.events;
        say = zip_join (SaysEvent told.schema.items) xs ys one.events other.events one.say other.say;
        placed = subst (AllByRecursion IsSeenOn) (sym parted) (both_on IsSeenOn (seen_events told one.events) (seen_events told other.events) one.placed other.placed);
        are = ap (λ (l : List Stretch). l ++ ts) one.are ∙ ap (λ (l : List Stretch). seen_spans told one.events ++ l) other.are
            ∙ sym (ap (map span_of) parted ∙ map-append span_of (seen_events told one.events) (seen_events told other.events));
      }

  pub placed_none : SayPlaced told route [] []
  placed_none = record { events = []; say = tt; placed = tt; are = refl }

  pub placed_next : (cells : List (List ℕ)) (k : ℕ) (cell : List ℕ) (ss ts : List Stretch) → slice_get cells k ≡ Some cell → SayPlaced told route (take k cells) ss → SayPlaced told route (cell ∷ []) ts
      → SayPlaced told route (take (k + 1) cells) (ss ++ ts)
  placed_next cells k cell ss ts there so one =
      let next : suc k ≡ k + 1 = omega arith in
      subst (λ (l : List (List ℕ)). SayPlaced told route l (ss ++ ts)) (sym (take_next cells k cell there) ∙ ap (λ (n : ℕ). take n cells) next) (placed_both (take k cells) (cell ∷ []) ss ts so one)

  -- what all cells say, each says
  pub placed_at : (cells : List (List ℕ)) (k : ℕ) (cell : List ℕ) (spans : List Stretch) → slice_get cells k ≡ Some cell → SayPlaced told route cells spans → (ts : List Stretch) × SayPlaced told route (cell ∷ []) ts
  placed_at cells k cell spans there so = by cells k so.events there so.say so.placed where
    rest_on : (e : Event) (es : List Event) → AllByRecursion IsSeenOn (seen_events told (e ∷ es)) → AllByRecursion IsSeenOn (seen_events told es)
    rest_on e es on = by_seen (sees_event told.records.accepted e) on where
      by_seen : (b : Bool) → AllByRecursion IsSeenOn (cond b (e ∷ seen_events told es) (seen_events told es)) → AllByRecursion IsSeenOn (seen_events told es)
      by_seen true all = all.1
      by_seen false all = all

    first_on : (e : Event) (es : List Event) → AllByRecursion IsSeenOn (seen_events told (e ∷ es)) → AllByRecursion IsSeenOn (seen_events told (e ∷ []))
    first_on e es on = by_seen (sees_event told.records.accepted e) on where
      by_seen : (b : Bool) → AllByRecursion IsSeenOn (cond b (e ∷ seen_events told es) (seen_events told es)) → AllByRecursion IsSeenOn (cond b (e ∷ []) [])
      by_seen true all = (all.0, tt)
      by_seen false all = tt

    by : (cells : List (List ℕ)) (k : ℕ) (events : List Event) → slice_get cells k ≡ Some cell → AllZip (SaysEvent told.schema.items) cells events → AllByRecursion IsSeenOn (seen_events told events)
        → (ts : List Stretch) × SayPlaced told route (cell ∷ []) ts
    by [] k events there say on = cc
    by (c ∷ cs) k [] there say on = absurd say
    by (c ∷ cs) zero (e ∷ es) there say on =
        let same : c ≡ cell = cc there in
        (seen_spans told (e ∷ []), record { events = e ∷ []; say = (subst (λ (x : List ℕ). SaysEvent told.schema.items x e) same say.0, tt); placed = first_on e es on; are = refl })
    by (c ∷ cs) (suc k) (e ∷ es) there say on = by cs k es there say.1 (rest_on e es on)

  -- ---- spans that are placed, and those that are meant

  placed_spans : (events : List Event) → AllByRecursion IsSeenOn events → ArePlaced told.kind (map span_of events)
  placed_spans [] on = tt
  placed_spans (e ∷ es) on = (on.0.1, placed_spans es on.1)

  pub placed_all : (cells : List (List ℕ)) (spans : List Stretch) → SayPlaced told route cells spans → ArePlaced told.kind spans
  placed_all cells spans so = subst (ArePlaced told.kind) (sym so.are) (placed_spans (seen_events told so.events) so.placed)

  on_only : (events : List Event) → AllByRecursion IsSeenOn events → AllByRecursion (λ event. IsOn told.kind route event.route (span_of event)) events
  on_only [] on = tt
  on_only (e ∷ es) on = (on.0.0, on_only es on.1)

  pub meant_where_runs : (cells : List (List ℕ)) (spans : List Stretch) → SayPlaced told route cells spans → AreAllRunsOf told.kind (places_of spans) spans → SayMeant told route cells
  meant_where_runs cells spans so runs = record {
    events = so.events;
    say = so.say;
    on = on_only (seen_events told so.events) so.placed;
    runs = subst (λ (l : List Stretch). AreAllRunsOf told.kind (places_of l) l) so.are runs;
  }

  maximal_placed : (kind : Kind) (spans all : List Stretch) → AllByRecursion (IsMaximalRun kind (places_of all)) spans → ArePlaced kind spans
  maximal_placed kind [] all maximal = tt
  maximal_placed Line (s ∷ ss) all maximal = (maximal.0.some, maximal_placed Line ss all maximal.1)
  maximal_placed Point (s ∷ ss) all maximal = (maximal.0.one, maximal_placed Point ss all maximal.1)

  both_placed : (events : List Event) → AllByRecursion (λ event. IsOn told.kind route event.route (span_of event)) events → ArePlaced told.kind (map span_of events) → AllByRecursion IsSeenOn events
  both_placed [] on placed = tt
  both_placed (e ∷ es) on placed = ((on.0, placed.0), both_placed es on.1 placed.1)

  pub placed_where_meant : (cells : List (List ℕ)) → SayMeant told route cells → (spans : List Stretch) × SayPlaced told route cells spans × AreAllRunsOf told.kind (places_of spans) spans
  placed_where_meant cells so =
      let spans : List Stretch = seen_spans told so.events in
      (spans, record { events = so.events; say = so.say; placed = both_placed (seen_events told so.events) so.on (maximal_placed told.kind spans spans so.runs.maximal); are = refl }, so.runs)

  -- cells say one list of events
  events_once : (cells : List (List ℕ)) (one other : List Event) → AllZip (SaysEvent told.schema.items) cells one → AllZip (SaysEvent told.schema.items) cells other → one ≡ other
  events_once [] [] [] say tells = refl
  events_once [] [] (o ∷ os) say tells = absurd tells
  events_once [] (e ∷ es) other say tells = absurd say
  events_once (c ∷ cs) [] other say tells = absurd say
  events_once (c ∷ cs) (e ∷ es) [] say tells = absurd tells
  events_once (c ∷ cs) (e ∷ es) (o ∷ os) say tells =
      ap (λ (x : Event). x ∷ es) (event_said_once told.schema.items c e o say.0 tells.0) ∙ ap (λ (l : List Event). o ∷ l) (events_once cs es os say.1 tells.1)

  pub spans_once : (cells : List (List ℕ)) (ss ts : List Stretch) → SayPlaced told route cells ss → SayPlaced told route cells ts → ss ≡ ts
  spans_once cells ss ts one other = one.are ∙ ap (seen_spans told) (events_once cells one.events other.events one.say other.say) ∙ sym other.are
