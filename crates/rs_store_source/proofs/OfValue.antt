-- Of the spans of events that have a value, as many rows have it as of all.
use Rattle.std.proofs.Common.{◌≡◌, ◌&&◌, ◌||◌, ℕ, Bool, true, false, not, cond, List, [], ◌∷◌, ap, filter, map, refl, sym, ◌∙◌}
use Rattle.std.proofs.lemmas.Bool.{and_parts, false≢true}
use Rattle.std.specs.List.{list_any}
use Rattle.std.specs.Ordering.{is_eq}
use Rattle.rs_file.specs.Finding as index
use Rattle.rs_exec.specs.Given.{has_value, inside}
use Rattle.rs_exec.specs.declared.source.Part.{Part}
use Rattle.rs_table_reads.specs.Found.{spans_with}
use Rattle.rs_table_reads.specs.Read.{is_placed, spans_in}
use Rattle.rs_table_reads.specs.declared.window.RouteWindow.{RouteWindow}
use Rattle.rs_exec.specs.declared.source.Part.TheVariants as parts
use Rattle.rs_exec.specs.declared.source.SoughtValue.{SoughtValue}
use Rattle.rs_facts.proofs.RowSets.{contains-keep}
use Rattle.rs_facts.proofs.Sets.{same_rows}
use Rattle.rs_facts.proofs.SpanLaws.{Holds-from_holds, contains-places_of, holds}
use Rattle.rs_facts.specs.Condition.{is_null}
use Rattle.rs_facts.specs.Fact.{RowSet, keep, none}
use Rattle.rs_facts.specs.Insert.{within}
use Rattle.rs_facts.specs.Operators.{datum_at, windowed}
use Rattle.rs_facts.specs.Runs.{Stretch}
use Rattle.rs_facts.specs.Spans.{places_of}
use Rattle.rs_value.specs.Row.{Row, datum_cmp}
use Rattle.rs_value.specs.View.{literal_datum}
use Rattle.rs_versioned.specs.Events.{Event, is_visible, span_of}

-- ---- lists

module _ {X : Type 0} (p q : X → Bool) where
  pub filter_both : (xs : List X) → filter q (filter p xs) ≡ filter (λ x. p x && q x) xs
  filter_both [] = refl
  filter_both (x ∷ xs) = by_test (p x) (filter_both xs) where
    by_test : (b : Bool) → filter q (filter p xs) ≡ filter (λ x. p x && q x) xs
        → filter q (cond b (x ∷ filter p xs) (filter p xs)) ≡ cond (b && q x) (x ∷ filter (λ x. p x && q x) xs) (filter (λ x. p x && q x) xs)
    by_test true rest = ap (λ (l : List X). cond (q x) (x ∷ l) l) rest
    by_test false rest = rest

  -- what passes a test passes another that it implies
  filter_implied : ((x : X) → q x ≡ true → p x ≡ true) → (xs : List X) → filter q (filter p xs) ≡ filter q xs
  filter_implied implies [] = refl
  filter_implied implies (x ∷ xs) = by_tests (p x) (q x) refl refl (filter_implied implies xs) where
    by_tests : (a b : Bool) → p x ≡ a → q x ≡ b → filter q (filter p xs) ≡ filter q xs → filter q (cond a (x ∷ filter p xs) (filter p xs)) ≡ cond b (x ∷ filter q xs) (filter q xs)
    by_tests true b passes is rest = ap (λ (t : Bool). cond t (x ∷ filter q (filter p xs)) (filter q (filter p xs))) is ∙ ap (λ (l : List X). cond b (x ∷ l) l) rest
    by_tests false true fails is rest = absurd (false≢true (sym fails ∙ implies x is))
    by_tests false false fails is rest = rest

mapped : {X Y : Type 0} (f : X → Y) (p : Y → Bool) (xs : List X) → filter p (map f xs) ≡ map f (filter (λ x. p (f x)) xs)
mapped f p [] = refl
mapped {X} {Y} f p (x ∷ xs) = by_test (p (f x)) (mapped f p xs) where
  by_test : (b : Bool) → filter p (map f xs) ≡ map f (filter (λ x. p (f x)) xs)
      → cond b (f x ∷ filter p (map f xs)) (filter p (map f xs)) ≡ map f (cond b (x ∷ filter (λ x. p (f x)) xs) (filter (λ x. p (f x)) xs))
  by_test true rest = ap (λ (l : List Y). f x ∷ l) rest
  by_test false rest = rest

-- ---- rows that pass a test

module _ (test : Row → Bool) where
  abbrev passes : Stretch → Bool
  passes span = test span.row

  -- of the spans that hold a row, those stay whose row passes
  kept_any : (row : Row) (k : ℕ) (xs : List Stretch) → list_any (holds row k) (filter passes xs) ≡ (list_any (holds row k) xs && test row)
  kept_any row k [] = refl
  kept_any row k (x ∷ xs) = elim (test x.row) as (λ t. test x.row ≡ t → list_any (holds row k) (cond t (x ∷ filter passes xs) (filter passes xs)) ≡ ((holds row k x || list_any (holds row k) xs) && test row)) [
    | true ↦ λ e. ap (λ t. holds row k x || t) (kept_any row k xs) ∙ stays (holds row k x) (list_any (holds row k) xs) (test row) (λ h. ap test (sym (same h)) ∙ e)
    | false ↦ λ e. kept_any row k xs ∙ goes (holds row k x) (list_any (holds row k) xs) (test row) (λ h. ap test (sym (same h)) ∙ e)
  ] refl
    where
      same : holds row k x ≡ true → x.row ≡ row
      same h = (Holds-from_holds row k x h).same

      stays : (h rest t : Bool) → (h ≡ true → t ≡ true) → (h || (rest && t)) ≡ ((h || rest) && t)
      stays true rest t f = sym (f refl)
      stays false rest t f = refl

      goes : (h rest t : Bool) → (h ≡ true → t ≡ false) → (rest && t) ≡ ((h || rest) && t)
      goes true rest t f = (λ i. rest && f refl i) ∙ none_of rest ∙ sym (f refl)
        where
          none_of : (r : Bool) → (r && false) ≡ false
          none_of true = refl
          none_of false = refl
      goes false rest t f = refl

  kept_means : (xs : List Stretch) (k : ℕ) → places_of (filter passes xs) k ≡ keep test (places_of xs k)
  kept_means xs k = same_rows _ _ (λ row.
      contains-places_of (filter passes xs) k row
      ∙ kept_any row k xs
      ∙ ap (λ t. t && test row) (sym (contains-places_of xs k row))
      ∙ sym (contains-keep test (places_of xs k) row))

-- ---- rows that have the value

module _ (sought : SoughtValue) (window : RouteWindow) where
  abbrev is_found : Event → Bool
  is_found = index.has_value sought.column (literal_datum sought.value.now)

  abbrev has_span : Stretch → Bool
  has_span span = has_value sought span.row

  abbrev sees : Event → Bool
  sees = is_visible window.version window.route window.from window.to

  -- an event whose row has the value is found
  found_where : (event : Event) → has_span (span_of event) ≡ true → is_found event ≡ true
  found_where event is =
      let datum = literal_datum sought.value.now in
      (and_parts (not (is_null (datum_at event.row sought.column)) && not (is_null datum)) (is_eq (datum_cmp (datum_at event.row sought.column) datum)) is).1

  -- the spans of events that have the value, as events
  as_events : (events : List Event) → filter has_span (spans_in window events) ≡ map span_of (filter (λ event. sees event && (is_placed window.kind (span_of event) && has_span (span_of event))) events)
  as_events events =
      filter_both (is_placed window.kind) has_span (map span_of (filter sees events))
      ∙ mapped span_of (λ (span : Stretch). is_placed window.kind span && has_span span) (filter sees events)
      ∙ ap (map span_of) (filter_both sees (λ (event : Event). is_placed window.kind (span_of event) && has_span (span_of event)) events)

  same_spans : (events : List Event) → filter has_span (spans_with sought.column (literal_datum sought.value.now) window events) ≡ filter has_span (spans_in window events)
  same_spans events =
      as_events (filter is_found events)
      ∙ ap (map span_of) (filter_implied is_found (λ (event : Event). sees event && (is_placed window.kind (span_of event) && has_span (span_of event)))
      (λ event is. found_where event (and_parts (is_placed window.kind (span_of event)) (has_span (span_of event))
      (and_parts (sees event) (is_placed window.kind (span_of event) && has_span (span_of event)) is).1).1) events)
      ∙ sym (as_events events)

  pub kept_of_value : (events : List Event) (k : ℕ)
      → keep (has_value sought) (places_of (spans_with sought.column (literal_datum sought.value.now) window events) k) ≡ keep (has_value sought) (places_of (spans_in window events) k)
  kept_of_value events k =
      sym (kept_means (has_value sought) (spans_with sought.column (literal_datum sought.value.now) window events) k)
      ∙ ap (λ (spans : List Stretch). places_of spans k) (same_spans events)
      ∙ kept_means (has_value sought) (spans_in window events) k

-- rows of which a test keeps the same inside a part
pub keep_inside : (test : Row → Bool) (part : Part) (k : ℕ) (one other : RowSet) → keep test one ≡ keep test other → keep test (inside part k one) ≡ keep test (inside part k other)
unfolding windowed
keep_inside test parts.Whole k one other same = same
keep_inside test (parts.Between from to) k one other same = by_test (within from to k) same where
  by_test : (b : Bool) → keep test one ≡ keep test other → keep test (cond b one none) ≡ keep test (cond b other none)
  by_test true same = same
  by_test false same = refl
