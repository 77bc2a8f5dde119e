-- What is picked of the events that a search found are the spans in the window.
use Rattle.std.proofs.Common.{◌≡◌, ◌≤◌, ◌+◌, ◌*◌, ◌==◌, ◌&&◌, ℕ, Bool, true, false, cond, nat_lt, List, [], ◌∷◌, drop, filter, length, map, refl, sym, ap, ◌∙◌, subst}
use Rattle.std.proofs.lemmas.List.Sums.{length-filter}
use Rattle.std.specs.List.{AllZip, count_by}
use Rattle.rs_cell_versions.specs.Versioned.{Standing}
use Rattle.rs_facts.specs.Runs.{Stretch}
use Rattle.rs_interval.proofs.EventLaws.{record_has_one}
use Rattle.rs_interval.specs.EventRecords.{EventRecord, SaysRecord, overlaps}
use Rattle.rs_interval.specs.Finding.{FindsOverlapping, event_form}
use Rattle.rs_pages.specs.PageMap.{PageMap}
use Rattle.rs_tree.proofs.Lists.{zip_lengths}
use Rattle.rs_tree.specs.Tree.{IsNoTree}
use Rattle.rs_value.specs.declared.column.ColumnType.{ColumnType}
use Rattle.rs_versioned.specs.Events.{Event, SaysEvent, event_width, is_visible, kept_events, sees_event, span_of}
use Rattle.rs_versioned.specs.Records.{HoldsRecords}
use Rattle.rs_file.specs.Finding.{has_value}
use Rattle.rs_value.specs.Row.{Datum}
use Rattle.rs_table_reads.specs.Found.{may_have, spans_with}
use Rattle.rs_table_reads.specs.Picked.{PicksSpans, SayNone, is_picked}
use Rattle.rs_table_reads.specs.Read.{HoldsNoEvents, ReadsSpans, is_placed, spans_in, touches}
use Rattle.rs_table_reads.specs.declared.window.RouteWindow.{RouteWindow}

-- ---- lists

pub drop_none : (cells : List (List ℕ)) → map (drop 0) cells ≡ cells
drop_none [] = refl
drop_none (c ∷ cs) = ap (λ (l : List (List ℕ)). c ∷ l) (drop_none cs)

module _ {X : Type 0} (p q : X → Bool) where
  -- what passes one test and then another passes both
  pub filter_both : (xs : List X) → filter q (filter p xs) ≡ filter (λ x. p x && q x) xs
  filter_both [] = refl
  filter_both (x ∷ xs) = by_test (p x) (filter_both xs) where
    by_test : (b : Bool) → filter q (filter p xs) ≡ filter (λ x. p x && q x) xs
        → filter q (cond b (x ∷ filter p xs) (filter p xs)) ≡ cond (b && q x) (x ∷ filter (λ x. p x && q x) xs) (filter (λ x. p x && q x) xs)
    by_test true rest = ap (λ (l : List X). cond (q x) (x ∷ l) l) rest
    by_test false rest = rest

  -- tests that answer alike keep the same
  filter_alike : ((x : X) → p x ≡ q x) → (xs : List X) → filter p xs ≡ filter q xs
  filter_alike alike [] = refl
  filter_alike alike (x ∷ xs) = ap (λ (b : Bool). cond b (x ∷ filter p xs) (filter p xs)) (alike x) ∙ ap (λ (l : List X). cond (q x) (x ∷ l) l) (filter_alike alike xs)

placed_mapped : (window : RouteWindow) (events : List Event) → filter (is_placed window.kind) (map span_of events) ≡ map span_of (filter (λ event. is_placed window.kind (span_of event)) events)
placed_mapped window [] = refl
placed_mapped window (e ∷ es) = by_test (is_placed window.kind (span_of e)) (placed_mapped window es) where
  by_test : (b : Bool) → filter (is_placed window.kind) (map span_of es) ≡ map span_of (filter (λ event. is_placed window.kind (span_of event)) es)
      → cond b (span_of e ∷ filter (is_placed window.kind) (map span_of es)) (filter (is_placed window.kind) (map span_of es))
      ≡ map span_of (cond b (e ∷ filter (λ event. is_placed window.kind (span_of event)) es) (filter (λ event. is_placed window.kind (span_of event)) es))
  by_test true rest = ap (λ (l : List Stretch). span_of e ∷ l) rest
  by_test false rest = rest

-- the event is seen in the window and placed
abbrev is_shown : RouteWindow → Event → Bool
is_shown window event = is_visible window.version window.route window.from window.to event && is_placed window.kind (span_of event)

spans_shown : (window : RouteWindow) (events : List Event) → spans_in window events ≡ map span_of (filter (is_shown window) events)
spans_shown window events =
    placed_mapped window (filter (is_visible window.version window.route window.from window.to) events)
    ∙ ap (map span_of) (filter_both (is_visible window.version window.route window.from window.to) (λ event. is_placed window.kind (span_of event)) events)

tests_alike : (on before after sees is : Bool) → ((on && (before && after)) && ((sees && after) && is)) ≡ (((on && (before && after)) && sees) && is)
tests_alike false before after sees is = refl
tests_alike true false after sees is = refl
tests_alike true true false sees is = refl
tests_alike true true true false is = refl
tests_alike true true true true is = refl

-- the spans that are picked of those that overlap the window are the spans in it
pub picked_in : (window : RouteWindow) (events : List Event) → map span_of (filter (is_picked window) (filter (touches window) events)) ≡ spans_in window events
picked_in window events =
    ap (map span_of) (filter_both (touches window) (is_picked window) events
    ∙ filter_alike (λ event. touches window event && is_picked window event) (is_shown window)
    (λ event. tests_alike (event.route == window.route) (nat_lt event.lo window.to) (nat_lt window.from event.hi) (sees_event window.version event) (is_placed window.kind (span_of event))) events)
    ∙ sym (spans_shown window events)

tests_with : (has on before after sees is : Bool) → ((has && (on && before)) && ((sees && after) && is)) ≡ (has && (((on && (before && after)) && sees) && is))
tests_with false on before after sees is = refl
tests_with true false before after sees is = refl
tests_with true true false after sees is = refl
tests_with true true true false false is = refl
tests_with true true true false true is = refl
tests_with true true true true false is = refl
tests_with true true true true true is = refl

-- and so are those that are picked of events with the value that begin before the window ends
pub picked_with : (column : ℕ) (datum : Datum) (window : RouteWindow) (events : List Event)
    → map span_of (filter (is_picked window) (filter (may_have column datum window) events)) ≡ spans_with column datum window events
picked_with column datum window events =
    ap (map span_of) (filter_both (may_have column datum window) (is_picked window) events
    ∙ filter_alike (λ event. may_have column datum window event && is_picked window event) (λ event. has_value column datum event && is_shown window event)
    (λ event. tests_with (has_value column datum event) (event.route == window.route) (nat_lt event.lo window.to) (nat_lt window.from event.hi) (sees_event window.version event) (is_placed window.kind (span_of event))) events
    ∙ sym (filter_both (has_value column datum) (is_shown window) events))
    ∙ sym (spans_shown window (filter (has_value column datum) events))

-- ---- the cells that were found

-- an event with the bytes of its row
abbrev pub record_of : Event → List ℕ → EventRecord
record_of event bytes = record { route = event.route; from = event.lo; row = bytes; born = event.born; to = event.hi; died = event.died }

module _ (types : List ColumnType) where
  -- the records of events, with the bytes of their rows
  records_of : (cells : List (List ℕ)) (events : List Event) → AllZip (SaysEvent types) cells events → List EventRecord
  records_of [] [] all = []
  records_of [] (e ∷ es) all = []
  records_of (c ∷ cs) [] all = []
  records_of (c ∷ cs) (e ∷ es) all = record_of e all.0.bytes ∷ records_of cs es all.1

  records_said : (cells : List (List ℕ)) (events : List Event) (all : AllZip (SaysEvent types) cells events) → AllZip SaysRecord cells (records_of cells events all)
  unfolding records_of
  records_said [] [] all = tt
  records_said [] (e ∷ es) all = absurd all
  records_said (c ∷ cs) [] all = absurd all
  records_said (c ∷ cs) (e ∷ es) all = (all.0.fields, records_said cs es all.1)

  module _ (window : RouteWindow) where
    -- the cells of records that overlap say the events that do
    found_said : (found cells : List (List ℕ)) (events : List Event) (all : AllZip (SaysEvent types) cells events)
        → AllZip SaysRecord found (filter (overlaps window.route window.from window.to) (records_of cells events all)) → AllZip (SaysEvent types) found (filter (touches window) events)
    unfolding records_of
    found_said [] [] [] all found = tt
    found_said (f ∷ fs) [] [] all found = absurd found
    found_said found [] (e ∷ es) all these = absurd all
    found_said found (c ∷ cs) [] all these = absurd all
    found_said found (c ∷ cs) (e ∷ es) all these =
        by_overlap (e.route == window.route && (nat_lt e.lo window.to && nat_lt window.from e.hi)) found these (λ (more : List (List ℕ)) rest. found_said more cs es all.1 rest) where
          by_overlap : (t : Bool) (found : List (List ℕ))
              → AllZip SaysRecord found (cond t (record_of e all.0.bytes ∷ filter (overlaps window.route window.from window.to) (records_of cs es all.1)) (filter (overlaps window.route window.from window.to) (records_of cs es all.1)))
              → ((more : List (List ℕ)) → AllZip SaysRecord more (filter (overlaps window.route window.from window.to) (records_of cs es all.1)) → AllZip (SaysEvent types) more (filter (touches window) es))
              → AllZip (SaysEvent types) found (cond t (e ∷ filter (touches window) es) (filter (touches window) es))
          by_overlap true [] these rest = absurd these
          by_overlap true (f ∷ fs) these rest =
              let same : f ≡ c = record_has_one f c (record_of e all.0.bytes) these.0 all.0.fields in
              (subst (λ (x : List ℕ). SaysEvent types x e) (sym same) all.0, rest fs these.1)
          by_overlap false found these rest = rest found these

  module _ (pages : PageMap) (standing : Standing) (window : RouteWindow) (found : List (List ℕ)) (reads : ℕ)
      (finds : FindsOverlapping (event_width types) pages standing.root window.route window.from window.to found reads) where
    pub found_zip : (events : List Event) (used : ℕ → ℕ) (accepted : ℕ) → HoldsRecords (kept_events types) pages standing accepted events used → AllZip (SaysEvent types) found (filter (touches window) events)
    found_zip events used accepted holds =
        found_said window found holds.cells events holds.say
        (finds.exact holds.cells used (records_of holds.cells events holds.say) holds.holds.tree (records_said holds.cells events holds.say))

    pub reads_spans : (spans : List Stretch) → PicksSpans types window (map (drop 0) found) spans → ReadsSpans types pages standing window spans reads
    reads_spans spans picks = record {
      each = λ events used accepted holds.
          picks.are (filter (touches window) events)
          (subst (λ (cells : List (List ℕ)). AllZip (SaysEvent types) cells (filter (touches window) events)) (sym (drop_none found)) (found_zip events used accepted holds))
          ∙ picked_in window events;
      bounded = λ events used accepted holds.
          let many : length found ≡ count_by (touches window) events =
          zip_lengths (SaysEvent types) found (filter (touches window) events) (found_zip events used accepted holds) ∙ length-filter (touches window) events in
          subst (λ (n : ℕ). reads ≤ holds.holds.tree.height * (n + 2)) many (finds.bounded holds.cells used holds.holds.tree);
      least = λ events used accepted holds. finds.least holds.cells used holds.holds.tree;
    }

    -- a cell that was found says no event
    pub none_found : SayNone types (map (drop 0) found) → HoldsNoEvents types pages standing
    none_found says = record {
      none = λ events used accepted holds.
          says.none (filter (touches window) events)
          (subst (λ (cells : List (List ℕ)). AllZip (SaysEvent types) cells (filter (touches window) events)) (sym (drop_none found)) (found_zip events used accepted holds));
    }

-- no tree stands there
pub none_without_tree : (types : List ColumnType) (pages : PageMap) (standing : Standing) → IsNoTree (event_form (event_width types)) pages standing.root → HoldsNoEvents types pages standing
none_without_tree types pages standing none = record { none = λ events used accepted holds. none.none holds.cells used holds.holds.tree }
