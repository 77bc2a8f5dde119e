-- Which spans are picked of cells, one after another.
use Rattle.std.proofs.Common.{◌≡◌, ◌<◌, ◌≤◌, ◌+◌, ◌-◌, ℕ, zero, suc, Bool, true, false, ◌&&◌, cond, nat_lt, Some, None, List, [], ◌∷◌, ◌++◌, drop, length, map, take, slice_get, append-nil, refl, sym, ap, ◌∙◌, subst, arith}
use Rattle.std.proofs.lemmas.Bool.{eqb-true, lt-ltb, ltb-true}
use Rattle.std.proofs.lemmas.Bool.Decides.{nat_tests}
use Rattle.std.proofs.lemmas.List.{length-drop, map-append, take_all}
use Rattle.std.proofs.lemmas.List.Elements.{filter-append}
use Rattle.std.specs.Prelude.{filter}
use Rattle.std.specs.List.{AllByRecursion, AllZip}
use Rattle.rs_cell_versions.specs.Version.{sees}
use Rattle.rs_facts.specs.Runs.{Stretch}
use Rattle.rs_facts.specs.Spans.{IsPlaced, seen}
use Rattle.rs_facts.specs.declared.fact.Span.{Span}
use Rattle.rs_tree.proofs.Lists.{take_next}
use Rattle.rs_value.proofs.EncodingLaws.{said_typed}
use Rattle.rs_value.specs.Values.{IsRowOf}
use Rattle.rs_value.specs.declared.column.ColumnType.{ColumnType}
use Rattle.rs_value.specs.declared.column.Kind.{Kind}
use Rattle.rs_value.specs.declared.column.Kind.TheVariants.{Line, Point}
use Rattle.rs_versioned.proofs.KeptRecords.{events_are_kept}
use Rattle.rs_versioned.proofs.Overlapping.{sees_record}
use Rattle.rs_versioned.specs.Events.{Event, SaysEvent, kept_events, span_of}
use Rattle.rs_table_reads.specs.Picked.{PicksOne, PicksSpans, SayNone, is_picked}
use Rattle.rs_table_reads.specs.Read.{is_placed}
use Rattle.rs_table_reads.specs.declared.window.RouteWindow.{RouteWindow}

-- ---- one cell

-- a part that goes on to the end
pub rest_is : (wide : ℕ) (cell : List ℕ) → take (length cell - wide) (drop wide cell) ≡ drop wide cell
rest_is wide cell = take_all (length cell - wide) (drop wide cell) (omega (arith, length-drop wide cell))

pub and_none : (p : Bool) → (p && false) ≡ false
and_none true = refl
and_none false = refl

module _ (types : List ColumnType) (window : RouteWindow) (cell : List ℕ) where
  -- the version sees the event where it sees the cell
  pub picked_by : (b : Bool) → sees window.version cell ≡ b → (event : Event) → SaysEvent types cell event
      → is_picked window event ≡ ((b && nat_lt window.from event.hi) && is_placed window.kind (span_of event))
  picked_by b e event tells =
      ap (λ (t : Bool). (t && nat_lt window.from event.hi) && is_placed window.kind (span_of event)) (sym (sees_record (kept_events types) (events_are_kept types) window.version cell event tells) ∙ e)

  pub unseen_passed : sees window.version cell ≡ false → PicksOne types window cell None
  unseen_passed e = record { picked = tt; passed = λ event tells. picked_by false e event tells }

  module _ (sees_it : sees window.version cell ≡ true) (span : Span) (is : (event : Event) → SaysEvent types cell event → seen span ≡ span_of event) where
    picked_as : (event : Event) → SaysEvent types cell event → is_picked window event ≡ (nat_lt window.from span.hi && is_placed window.kind (seen span))
    picked_as event tells =
        picked_by true sees_it event tells ∙ ap (λ (s : Stretch). nat_lt window.from s.hi && is_placed window.kind s) (sym (is event tells))

    pub picked_one : window.from < span.hi → is_placed window.kind (seen span) ≡ true → PicksOne types window cell (Some span)
    picked_one late placed = record {
      picked = λ event tells. (picked_as event tells ∙ ap (λ (t : Bool). t && is_placed window.kind (seen span)) (lt-ltb window.from span.hi late) ∙ placed, is event tells);
      passed = tt;
    }

    pub early_passed : span.hi ≤ window.from → PicksOne types window cell None
    early_passed early =
        let not_after : nat_lt window.from span.hi ≡ false = grind (arith, nat_tests) in
        record { picked = tt; passed = λ event tells. picked_as event tells ∙ ap (λ (t : Bool). t && is_placed window.kind (seen span)) not_after }

    pub unplaced_passed : is_placed window.kind (seen span) ≡ false → PicksOne types window cell None
    unplaced_passed isnt = record {
      picked = tt;
      passed = λ event tells. picked_as event tells ∙ ap (λ (t : Bool). nat_lt window.from span.hi && t) isnt ∙ and_none (nat_lt window.from span.hi);
    }

-- a span that is placed
pub placed_is : (kind : Kind) (span : Stretch) → is_placed kind span ≡ true → IsPlaced kind span
placed_is Line span is = ltb-true span.lo span.hi is
placed_is Point span is = let same = eqb-true span.hi (span.lo + 1) is in omega (arith, same)

-- the row of an event is one of these columns
pub row_said : (types : List ColumnType) (cell : List ℕ) (span : Stretch) → ((event : Event) × SaysEvent types cell event) → ((event : Event) → SaysEvent types cell event → span ≡ span_of event) → IsRowOf types span.row
row_said types cell span said is =
    subst (λ (s : Stretch). IsRowOf types s.row) (sym (is said.0 said.1)) (said_typed types said.1.bytes said.0.row said.1.row)

-- ---- one after another

-- the events of cells and of one more are events and one more
record Parted (types : List ColumnType) (cells : List (List ℕ)) (cell : List ℕ) (events : List Event) : Type 0 where
  front : List Event
  last : Event
  is : events ≡ front ++ last ∷ []
  say : AllZip (SaysEvent types) cells front
  says : SaysEvent types cell last

parted : (types : List ColumnType) (cells : List (List ℕ)) (cell : List ℕ) (events : List Event) → AllZip (SaysEvent types) (cells ++ cell ∷ []) events → Parted types cells cell events
parted types [] cell [] say = absurd say
parted types [] cell (e ∷ []) say = record { front = []; last = e; is = refl; say = tt; says = say.0 }
parted types [] cell (e ∷ f ∷ es) say = absurd say.1
parted types (c ∷ cs) cell [] say = absurd say
parted types (c ∷ cs) cell (e ∷ es) say =
    let rest = parted types cs cell es say.1 in
    record { front = e ∷ rest.front; last = rest.last; is = ap (λ l. e ∷ l) rest.is; say = (say.0, rest.say); says = rest.says }

pub picks_none : (types : List ColumnType) (window : RouteWindow) → PicksSpans types window [] []
picks_none types window = record { are = none } where
  none : (events : List Event) → AllZip (SaysEvent types) [] events → [] ≡ map span_of (filter (is_picked window) events)
  none [] say = refl
  none (e ∷ es) say = absurd say

module _ (types : List ColumnType) (window : RouteWindow) (cells : List (List ℕ)) (place : ℕ) (cell : List ℕ) (there : slice_get cells place ≡ Some cell) (spans : List Stretch)
    (so : PicksSpans types window (take place cells) spans) where
  next : take (place + 1) cells ≡ take place cells ++ cell ∷ []
  next = let e : place + 1 ≡ suc place = omega arith in ap (λ n. take n cells) e ∙ take_next cells place cell there

  last_is : (b : Bool) (front : List Event) (last : Event) → is_picked window last ≡ b
      → map span_of (filter (is_picked window) (front ++ last ∷ [])) ≡ map span_of (filter (is_picked window) front) ++ map span_of (cond b (last ∷ []) [])
  last_is b front last e =
      ap (map span_of) (filter-append (is_picked window) front (last ∷ [])) ∙ map-append span_of (filter (is_picked window) front) (filter (is_picked window) (last ∷ []))
      ∙ ap (λ (t : Bool). map span_of (filter (is_picked window) front) ++ map span_of (cond t (last ∷ []) [])) e

  pub picks_more : (span : Span) → PicksOne types window cell (Some span) → PicksSpans types window (take (place + 1) cells) (spans ++ seen span ∷ [])
  picks_more span one = subst (λ (l : List (List ℕ)). PicksSpans types window l (spans ++ seen span ∷ [])) (sym next) (record {
    are = λ events all.
        let p = parted types (take place cells) cell events all in
        let is = one.picked p.last p.says in
        ap (λ (l : List Stretch). l ++ seen span ∷ []) (so.are p.front p.say)
        ∙ ap (λ (s : Stretch). map span_of (filter (is_picked window) p.front) ++ s ∷ []) is.1
        ∙ sym (last_is true p.front p.last is.0) ∙ ap (λ (l : List Event). map span_of (filter (is_picked window) l)) (sym p.is);
  })

  pub picks_same : PicksOne types window cell None → PicksSpans types window (take (place + 1) cells) spans
  picks_same one = subst (λ (l : List (List ℕ)). PicksSpans types window l spans) (sym next) (record {
    are = λ events all.
        let p = parted types (take place cells) cell events all in
        so.are p.front p.say ∙ sym (append-nil (map span_of (filter (is_picked window) p.front)))
        ∙ sym (last_is false p.front p.last (one.passed p.last p.says)) ∙ ap (λ (l : List Event). map span_of (filter (is_picked window) l)) (sym p.is);
  })

-- a cell that says none
pub none_at : (types : List ColumnType) (found : List (List ℕ)) (place : ℕ) (cell : List ℕ) → slice_get found place ≡ Some cell → ((event : Event) → SaysEvent types cell event → ⊥) → SayNone types found
none_at types found place cell there none = record { none = by found place there } where
  by : (found : List (List ℕ)) (place : ℕ) → slice_get found place ≡ Some cell → (events : List Event) → AllZip (SaysEvent types) found events → ⊥
  by [] place there events say = absurd (cc)
  by (c ∷ cs) place there [] say = absurd say
  by (c ∷ cs) zero there (e ∷ es) say = let same : c ≡ cell = cc in none e (subst (λ x. SaysEvent types x e) same say.0)
  by (c ∷ cs) (suc k) there (e ∷ es) say = by cs k there es say.1

pub all_more : (P : Stretch → Type 0) (xs : List Stretch) (x : Stretch) → AllByRecursion P xs → P x → AllByRecursion P (xs ++ x ∷ [])
all_more P [] x all one = (one, tt)
all_more P (y ∷ xs) x all one = (all.0, all_more P xs x all.1 one)
