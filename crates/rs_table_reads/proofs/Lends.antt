-- Which spans are lent of cells that say events, one after another.
use Rattle.std.proofs.Common.{◌≡◌, ◌<◌, ◌≤◌, ◌+◌, ◌&&◌, ◌∙◌, ℕ, zero, suc, Bool, true, false, cond, nat_lt, Option, Some, None, List, [], ◌∷◌, ◌++◌, drop, length, map, take, slice_get, refl, sym, ap, ap₂, subst, arith}
use Rattle.std.proofs.lemmas.Bool.{lt-ltb}
use Rattle.std.proofs.lemmas.Bool.Decides.{nat_tests}
use Rattle.std.proofs.lemmas.List.{drop_all}
use Rattle.std.specs.List.{AllZip}
use Rattle.std.specs.Prelude.{IfSome, filter}
use Rattle.rs_cell_versions.specs.Version.{sees}
use Rattle.rs_facts.specs.Runs.{stretch}
use Rattle.rs_tree.proofs.Lists.{take_next, zip_lengths}
use Rattle.rs_value.specs.Encoding.{SaysRow}
use Rattle.rs_value.specs.Row.{Row}
use Rattle.rs_value.specs.declared.column.ColumnType.{ColumnType}
use Rattle.rs_versioned.specs.Events.{Event, SaysEvent, SaysSpan, span_of}
use Rattle.rs_versioned.specs.declared.event.LentSpan.{LentSpan}
use Rattle.rs_table_reads.specs.Events.{LendsNext, LendsOne, SayEvents, spans_left}
use Rattle.rs_table_reads.specs.Picked.{is_picked}
use Rattle.rs_table_reads.specs.Read.{is_placed}
use Rattle.rs_table_reads.specs.declared.window.RouteWindow.{RouteWindow}
use Rattle.rs_table_reads.proofs.Picks.{and_none, picked_by, unseen_passed}

-- ---- one cell

module _ (types : List ColumnType) (window : RouteWindow) (cell : List ℕ) where
  pub unseen_left : sees window.version cell ≡ false → LendsOne types window cell None
  unseen_left e = record { lent = tt; passed = (unseen_passed types window cell e).passed }

  module _ (sees_it : sees window.version cell ≡ true) (lent : LentSpan) (says : (event : Event) → SaysEvent types cell event → SaysSpan types lent (span_of event)) where
    picked_as : (event : Event) → SaysEvent types cell event → is_picked window event ≡ (nat_lt window.from lent.hi && is_placed window.kind (stretch lent.lo lent.hi event.row))
    picked_as event tells =
        picked_by types window cell true sees_it event tells
        ∙ ap₂ (λ (lo hi : ℕ). nat_lt window.from hi && is_placed window.kind (stretch lo hi event.row)) (sym (says event tells).lo) (sym (says event tells).hi)

    pub lends_one : window.from < lent.hi → ((row : Row) → is_placed window.kind (stretch lent.lo lent.hi row) ≡ true) → LendsOne types window cell (Some lent)
    lends_one late placed = record {
      lent = λ event tells.
          (picked_as event tells ∙ ap (λ t. t && is_placed window.kind (stretch lent.lo lent.hi event.row)) (lt-ltb window.from lent.hi late) ∙ placed event.row, says event tells);
      passed = tt;
    }

    pub early_left : lent.hi ≤ window.from → LendsOne types window cell None
    early_left early =
        let not_after : nat_lt window.from lent.hi ≡ false = grind (arith, nat_tests) in
        record { lent = tt; passed = λ event tells. picked_as event tells ∙ ap (λ t. t && is_placed window.kind (stretch lent.lo lent.hi event.row)) not_after }

    pub unplaced_left : ((row : Row) → is_placed window.kind (stretch lent.lo lent.hi row) ≡ false) → LendsOne types window cell None
    unplaced_left isnt = record {
      lent = tt;
      passed = λ event tells. picked_as event tells ∙ ap (λ t. nat_lt window.from lent.hi && t) (isnt event.row) ∙ and_none (nat_lt window.from lent.hi);
    }

-- ---- one after another

module _ (types : List ColumnType) where
  -- the event that the cell in this place says
  record SaidNext (cell : List ℕ) (events : List Event) (place : ℕ) : Type 0 where
    one : Event
    says : SaysEvent types cell one
    next : drop place events ≡ one ∷ drop (place + 1) events

  said_next : (cells : List (List ℕ)) (events : List Event) (place : ℕ) (cell : List ℕ) → AllZip (SaysEvent types) cells events → slice_get cells place ≡ Some cell → SaidNext cell events place
  said_next [] events place cell say there = absurd (cc)
  said_next (c ∷ cs) [] place cell say there = absurd say
  said_next (c ∷ cs) (e ∷ es) zero cell say there =
      let same : c ≡ cell = cc in
      record { one = e; says = subst (λ (x : List ℕ). SaysEvent types x e) same say.0; next = refl }
  said_next (c ∷ cs) (e ∷ es) (suc place) cell say there =
      let rest = said_next cs es place cell say.1 there in
      let more : suc place + 1 ≡ suc (place + 1) = omega arith in
      record { one = rest.one; says = rest.says; next = rest.next ∙ ap (λ (n : ℕ). rest.one ∷ drop n (e ∷ es)) (sym more) }

  module _ (window : RouteWindow) where
    with_test : (t : Bool) (event : Event) (events : List Event) → is_picked window event ≡ t
        → map span_of (filter (is_picked window) (event ∷ events)) ≡ map span_of (cond t (event ∷ filter (is_picked window) events) (filter (is_picked window) events))
    with_test t event events is = ap (λ b. map span_of (cond b (event ∷ filter (is_picked window) events) (filter (is_picked window) events))) is

    pub lends_next : (cells : List (List ℕ)) (events : List Event) (place : ℕ) (cell : List ℕ) (found : Option LentSpan) → AllZip (SaysEvent types) cells events
        → slice_get cells place ≡ Some cell → LendsOne types window cell found → LendsNext types window events place found
    lends_next cells events place cell (Some lent) say there one =
        let next = said_next cells events place cell say there in
        let is = one.lent next.one next.says in
        record {
          lent = (
            span_of next.one,
            ap (λ l. map span_of (filter (is_picked window) l)) next.next ∙ with_test true next.one (drop (place + 1) events) is.0,
            is.1,
          );
          passed = tt;
        }
    lends_next cells events place cell None say there one =
        let next = said_next cells events place cell say there in
        record {
          lent = tt;
          passed = ap (λ l. map span_of (filter (is_picked window) l)) next.next ∙ with_test false next.one (drop (place + 1) events) (one.passed next.one next.says);
        }

    -- none is left after the last
    pub none_left : (cells : List (List ℕ)) (events : List Event) (place : ℕ) → AllZip (SaysEvent types) cells events → length cells ≤ place → spans_left window events place ≡ []
    none_left cells events place say past =
        let many = zip_lengths (SaysEvent types) cells events say in
        ap (λ l. map span_of (filter (is_picked window) l)) (drop_all place events (omega (arith, many, past)))

  zip_more : (cells : List (List ℕ)) (events : List Event) (cell : List ℕ) (event : Event) → AllZip (SaysEvent types) cells events → SaysEvent types cell event
      → AllZip (SaysEvent types) (cells ++ cell ∷ []) (events ++ event ∷ [])
  zip_more [] [] cell event say one = (one, tt)
  zip_more [] (e ∷ es) cell event say one = absurd say
  zip_more (c ∷ cs) [] cell event say one = absurd say
  zip_more (c ∷ cs) (e ∷ es) cell event say one = (say.0, zip_more cs es cell event say.1 one)

  -- one more of the cells says an event
  pub say_more : (cells : List (List ℕ)) (place : ℕ) (cell : List ℕ) → slice_get cells place ≡ Some cell → SayEvents types (take place cells) → ((event : Event) × SaysEvent types cell event)
      → SayEvents types (take (place + 1) cells)
  say_more cells place cell there so one =
      let more : place + 1 ≡ suc place = omega arith in
      let next : take (place + 1) cells ≡ take place cells ++ cell ∷ [] = ap (λ n. take n cells) more ∙ take_next cells place cell there in
      (so.0 ++ one.0 ∷ [], subst (λ l. AllZip (SaysEvent types) l (so.0 ++ one.0 ∷ [])) (sym next) (zip_more (take place cells) so.0 cell one.0 so.1 one.1))

  -- the event that the cell in this place says
  pub said_at : (cells : List (List ℕ)) (place : ℕ) (cell : List ℕ) → SayEvents types cells → slice_get cells place ≡ Some cell → (event : Event) × SaysEvent types cell event
  said_at cells place cell say there = let next = said_next cells say.0 place cell say.1 there in (next.one, next.says)

  -- what is lent of it has its row
  pub row_lent : (found : Option LentSpan) (event : Event) → IfSome found (λ lent. SaysRow types lent.row.now event.row) → IfSome found (λ lent. (row : Row) × SaysRow types lent.row.now row)
  row_lent (Some lent) event says = (event.row, says)
  row_lent None event says = tt
