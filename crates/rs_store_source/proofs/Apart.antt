-- Of the spans that are read of a version that has just its runs, no two are one run.
use Rattle.std.proofs.Common.{◌≡◌, ◌&&◌, ◌==◌, ◌∙◌, ℕ, Bool, true, false, cond, nat_lt, List, [], ◌∷◌, ap, filter, map, refl, subst, sym}
use Rattle.std.proofs.lemmas.Bool.{and_from, and_parts, false≢true}
use Rattle.std.specs.List.{AllByRecursion}
use Rattle.rs_attr.proofs.Lent.{apart_where_runs}
use Rattle.rs_coalesce.specs.Joined.{AreJoined}
use Rattle.rs_coalesce.proofs.Separate.{AreSeparate, joined-filtered, joined-from_separate, separate-from_joined}
use Rattle.rs_facts.proofs.RunLaws.{IsApart}
use Rattle.rs_facts.specs.Runs.{Stretch}
use Rattle.rs_file.specs.Finding as index
use Rattle.rs_table_reads.specs.Found.{spans_with}
use Rattle.rs_table_reads.specs.Read.{is_placed, spans_in}
use Rattle.rs_table_reads.specs.declared.window.RouteWindow.{RouteWindow}
use Rattle.rs_value.specs.Row.{Datum}
use Rattle.rs_value.specs.declared.column.Kind.{Kind}
use Rattle.rs_versioned.specs.Events.{Event, is_on, is_visible, sees_event, span_of}
use Rattle.rs_versioned.specs.Runs.{AreRunsAt}
use Rattle.rs_store_source.proofs.OfValue.{filter_both}

-- ---- some of the events that a version sees on a route

module _ (on test : Event → Bool) (implies : (event : Event) → test event ≡ true → on event ≡ true) where
  every_picked : (P : Stretch → Type 0) (events : List Event) → AllByRecursion P (map span_of (filter on events)) → AllByRecursion P (map span_of (filter test events))
  every_picked P [] all = tt
  every_picked P (e ∷ es) all = by_tests (on e) (test e) refl refl (every_picked P es) all where
    by_tests : (a b : Bool) → on e ≡ a → test e ≡ b → (AllByRecursion P (map span_of (filter on es)) → AllByRecursion P (map span_of (filter test es)))
        → AllByRecursion P (map span_of (cond a (e ∷ filter on es) (filter on es))) → AllByRecursion P (map span_of (cond b (e ∷ filter test es) (filter test es)))
    by_tests true true is passes more all = (all.0, more all.1)
    by_tests true false is fails more all = more all.1
    by_tests false true is passes more all = absurd (false≢true (sym is ∙ implies e passes))
    by_tests false false is fails more all = more all

  separate_picked : (kind : Kind) (events : List Event) → AreSeparate kind (map span_of (filter on events)) → AreSeparate kind (map span_of (filter test events))
  separate_picked kind [] all = tt
  separate_picked kind (e ∷ es) all = by_tests (on e) (test e) refl refl (separate_picked kind es) all where
    by_tests : (a b : Bool) → on e ≡ a → test e ≡ b → (AreSeparate kind (map span_of (filter on es)) → AreSeparate kind (map span_of (filter test es)))
        → AreSeparate kind (map span_of (cond a (e ∷ filter on es) (filter on es))) → AreSeparate kind (map span_of (cond b (e ∷ filter test es) (filter test es)))
    by_tests true true is passes more all = (every_picked (IsApart kind (span_of e)) es all.0, more all.1)
    by_tests true false is fails more all = more all.1
    by_tests false true is passes more all = absurd (false≢true (sym is ∙ implies e passes))
    by_tests false false is fails more all = more all

-- ---- what is read

module _ (window : RouteWindow) (events : List Event) (runs : AreRunsAt window.kind window.version window.route events) where
  abbrev sees : Event → Bool
  sees = is_visible window.version window.route window.from window.to

  seen_on : (event : Event) → sees event ≡ true → is_on window.version window.route event ≡ true
  seen_on event is =
      let parts = and_parts (event.route == window.route && (nat_lt event.lo window.to && nat_lt window.from event.hi)) (sees_event window.version event) is in
      and_from (event.route == window.route) (sees_event window.version event)
      (and_parts (event.route == window.route) (nat_lt event.lo window.to && nat_lt window.from event.hi) parts.0).0 parts.1

  joined_picked : (test : Event → Bool) → ((event : Event) → test event ≡ true → is_on window.version window.route event ≡ true) → AreJoined window.kind (filter (is_placed window.kind) (map span_of (filter test events)))
  joined_picked test implies =
      let all = apart_where_runs window.kind (map span_of (filter (is_on window.version window.route) events)) runs in
      joined-filtered window.kind (is_placed window.kind) (map span_of (filter test events))
      (joined-from_separate window.kind (map span_of (filter test events)) (separate_picked (is_on window.version window.route) test implies window.kind events
      (separate-from_joined window.kind (map span_of (filter (is_on window.version window.route) events)) all)))

  pub spans_joined : AreJoined window.kind (spans_in window events)
  spans_joined = joined_picked sees seen_on

  -- those of the events that have a value
  pub value_joined : (column : ℕ) (datum : Datum) → AreJoined window.kind (spans_with column datum window events)
  value_joined column datum =
      subst (λ (found : List Event). AreJoined window.kind (filter (is_placed window.kind) (map span_of found))) (sym (filter_both (index.has_value column datum) sees events))
      (joined_picked (λ event. index.has_value column datum event && sees event)
      (λ event is. seen_on event (and_parts (index.has_value column datum event) (sees event) is).1))
