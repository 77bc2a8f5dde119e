-- Views stay meant, whatever accepted command changes the rest of the state.
use Rattle.std.proofs.Common.{◌≡◌, ◌∙◌, ℕ, ◌≤◌, Bool, true, false, ◌&&◌, ◌||◌, cond, List, [], ◌∷◌, Option, Some, None, is_some, Ok, refl, sym, ap, subst, inl, inr}
use Rattle.std.specs.Prelude.{IsTrue, if◌then◌else◌}
use Rattle.std.specs.Ordering.{eq_by_cmp}
use Rattle.std.specs.List.{AllByRecursion, list_any}
use Rattle.std.specs.FinMap as names
use Rattle.std.specs.FinMap.{find, get-entries, get-remove}
use Rattle.rs_methods.specs.Position.{PositionExpression, absolute, beyond, before, interpolative, start_name}
use Rattle.rs_facts.specs.Fact.{Name, Names, name_cmp}
use Rattle.rs_facts.specs.Insert.{same_name}
use Rattle.rs_facts.specs.Query.{Table, Piece, Query}
use Rattle.rs_planning.specs.Basis.{IndexedColumn}
use Rattle.rs_syntax.specs.Sound.{IsName, IsQuery}
use Rattle.rs_syntax.specs.Tree.{WindowTree, whole_route, part_of_route, QueryTree}
use Rattle.rs_machine.specs.declared.limits.TheConstants.{NODES, DEPTH}
use Rattle.rs_machine.specs.State.{Cursors, State, has}
use Rattle.rs_machine.specs.Checks.{has_table_or_view, has_referent, window_route}
use Rattle.rs_machine.specs.Checking.{nodes_checked}
use Rattle.rs_machine.specs.Opening.{names_in, alignments_in, windows_in, opened, nodes, depth, some_view, names_query, names_alignment, window_on, names_route, position_by, window_by, names_referent, AreInOrder}
use Rattle.rs_machine.specs.Step.{referents_at, with_route, with_table, with_view, with_alignment, without_route, without_table, without_view, without_alignment, with_referents}
use Rattle.rs_machine.specs.Lawful.{Each, AreKnown, AreAlignments, HasItsReferent, IsWindowOf, widened, IsViewMeant, IsLawful}
use Rattle.rs_machine.proofs.NameOrder.{name_cmp-total}
use Rattle.rs_machine_laws.proofs.Names.{false_true, none_some, some_same, either_false, same_name-true, same_name-back, each_removed, at_inserted, AtInserted, inserted_other, at_removed, removed_other, has_inserted, still_there}
use Rattle.rs_machine_laws.proofs.Lists.{all_weaker, all_both, none_pass}
use Rattle.rs_machine_laws.proofs.Opening.{Avoids}
use Rattle.rs_machine_laws.proofs.Windows.{IsChecked}
use Rattle.rs_machine_laws.proofs.Passing.{Passing, TableKept, passes}
use Rattle.rs_machine_laws.proofs.Keeping.{all_kept, all_pass, none_any, pass_but, route_inserted, same_pass, still_same}
use Rattle.rs_machine_laws.proofs.ViewOrder.{order_more, opened_more, order_less, opened_less}

-- ---- what no entry passes

in_entries : {X : Type 0} (test : X → Bool) (entries : List (Name × X)) (name : Name) (thing : X) → find name_cmp name entries ≡ Some thing → list_any (λ entry. test entry.1) entries ≡ false → test thing ≡ false
in_entries test [] name thing there none = none_some thing there
in_entries test (entry ∷ entries) name thing there none =
    let parts = either_false (test entry.1) (list_any (λ e. test e.1) entries) none in
    elim (eq_by_cmp name_cmp name entry.0) as (λ same. cond same (Some entry.1) (find name_cmp name entries) ≡ Some thing → test thing ≡ false) [
      | true ↦ λ found. ap test (sym (some_same entry.1 thing found)) ∙ parts.0
      | false ↦ λ found. in_entries test entries name thing found parts.1
    ] there

-- a test that no entry passes is one that nothing there passes
pub none_there : {X : Type 0} (test : X → Bool) (things : Names X) → list_any (λ entry. test entry.1) (names.entries things) ≡ false → Each things (λ name thing. test thing ≡ false)
none_there test things none name thing there = in_entries test (names.entries things) name thing (sym (get-entries things name) ∙ there) none

-- ---- what makes a view

view_kept : (old new : State) (name : Name) (query : QueryTree) → IsViewMeant old name query → has new.tables name ≡ false → AreKnown new (names_in query) → AreAlignments new (alignments_in query)
    → AllByRecursion (IsWindowOf new) (windows_in query)
    → opened new.views query ≡ opened old.views query → Passing new (opened old.views query) → IsViewMeant new name query
view_kept old new name query was no_table known alignments windows opens pass = record {
  is = record {
    named = was.is.named;
    sound = was.is.sound;
    no_table = no_table;
    known = known;
    alignments = alignments;
    windows = windows;
    few_nodes = subst (λ q. nodes q ≤ NODES) (sym opens) was.is.few_nodes;
    not_deep = subst (λ q. depth q ≤ DEPTH) (sym opens) was.is.not_deep;
  };
  checked = pass.0;
  passes = subst (λ q. nodes_checked new (widened q) ≡ Ok pass.0) (sym opens) pass.1;
}

referent_kept : (old new : State) (route : Name) → ((name : Name) → IsTrue (has_referent old route name) → IsTrue (has_referent new route name))
    → (position : PositionExpression) → HasItsReferent old route position → HasItsReferent new route position
referent_kept old new route kept (absolute measure) is = tt
referent_kept old new route kept (beyond name measure) is = kept name is
referent_kept old new route kept (before name measure) is = kept name is
referent_kept old new route kept (interpolative part) is = tt

window_kept : (old new : State) → ((route : Name) → IsTrue (has old.routes route) → IsTrue (has new.routes route)) → ((route name : Name) → IsTrue (has_referent old route name) → IsTrue (has_referent new route name))
    → (window : WindowTree) → IsWindowOf old window → IsWindowOf new window
window_kept old new routes referents (whole_route route) is = routes route is
window_kept old new routes referents (part_of_route route from to) is =
    (routes route is.0, referent_kept old new route (referents route) from is.1, referent_kept old new route (referents route) to is.2)

windows_kept : (old new : State) → ((route : Name) → IsTrue (has old.routes route) → IsTrue (has new.routes route)) → ((route name : Name) → IsTrue (has_referent old route name) → IsTrue (has_referent new route name))
    → (query : QueryTree) → AllByRecursion (IsWindowOf old) (windows_in query) → AllByRecursion (IsWindowOf new) (windows_in query)
windows_kept old new routes referents query all = all_weaker (IsWindowOf old) (IsWindowOf new) (window_kept old new routes referents) (windows_in query) all

or_more : (a b c : Bool) → (a ≡ true → b ≡ true) → a || c ≡ true → b || c ≡ true
or_more true b c more is = ap (λ t. t || c) (more refl)
or_more false true c more is = refl
or_more false false c more is = is

or_more_right : (a b c : Bool) → (b ≡ true → c ≡ true) → a || b ≡ true → a || c ≡ true
or_more_right true b c more is = refl
or_more_right false b c more is = more is

-- ---- one route more

pub views-route_more : (state : State) (name : Name) (start finish : ℕ) → IsLawful state → Each state.views (IsViewMeant (with_route state name start finish))
views-route_more state name start finish lawful q query there =
    let was = lawful.views.each q query there in
    view_kept state (with_route state name start finish) q query was was.is.no_table was.is.known was.is.alignments
    (windows_kept state (with_route state name start finish) (λ route has_it. has_inserted state.routes name (record { start = start; finish = finish }) route has_it) (λ route referent has_it. has_it) query was.is.windows)
    refl
    (all_pass state (with_route state name start finish) lawful (still_same state.tables) (λ route on. route_inserted state.routes name (record { start = start; finish = finish }) route on.0 on.1) (λ n pieces at. at) q query there)

-- ---- a table put

-- a table's name is no view's
pub table_no_view : (state : State) (name : Name) → IsLawful state → has state.tables name ≡ true → has state.views name ≡ false
table_no_view state name lawful there = by (names.get state.views name) refl
  where
    by : (found : Option QueryTree) → names.get state.views name ≡ found → is_some found ≡ false
    by None e = refl
    by (Some query) e = false_true (sym (lawful.views.each name query e).is.no_table ∙ there)

-- a name that stands there is another than one that doesn't
other_name : {X : Type 0} (things : Names X) (name q : Name) (thing : X) → has things name ≡ false → names.get things q ≡ Some thing → same_name q name ≡ false
other_name things name q thing none there =
    elim (same_name q name) as (λ same. same_name q name ≡ same → same ≡ false) [
      | true ↦ λ same. false_true (sym none ∙ ap is_some (ap (names.get things) (sym (same_name-true q name same)) ∙ there))
      | false ↦ λ same. refl
    ] refl

pub views-table_put : (state : State) (name : Name) (table : Table) → IsLawful state → has state.views name ≡ false → ((n : Name) → TableKept state (with_table state name table) n) → Each state.views (IsViewMeant (with_table state name table))
views-table_put state name table lawful no_view still q query there =
    let was = lawful.views.each q query there in
    let new = with_table state name table in
    view_kept state new q query was
    (ap is_some (inserted_other state.tables name table q (other_name state.views name q query no_view there)) ∙ was.is.no_table)
    (all_weaker (λ n. IsTrue (has_table_or_view state n)) (λ n. IsTrue (has_table_or_view new n))
    (λ n known. or_more (has state.tables n) (has (names.insert state.tables name table) n) (has state.views n) (has_inserted state.tables name table n) known) (names_in query) was.is.known)
    was.is.alignments
    (windows_kept state new (λ route has_it. has_it) (λ route referent has_it. has_it) query was.is.windows)
    refl
    (all_pass state new lawful still (λ route on. on) (λ n pieces at. at) q query there)

-- ---- one table less

has_removed : {X : Type 0} (things : Names X) (name q : Name) → same_name name q ≡ false → has things q ≡ true → has (names.remove things name) q ≡ true
has_removed things name q other there = ap is_some (removed_other things name q (same_name-back q name ∙ other)) ∙ there

still_none : {X : Type 0} (things : Names X) (name q : Name) → has things q ≡ false → has (names.remove things name) q ≡ false
still_none things name q none =
    ap is_some (get-remove name_cmp-total things name q)
    ∙ elim (eq_by_cmp name_cmp q name) as (λ same. is_some (cond same None (names.get things q)) ≡ false) [ true ↦ refl | false ↦ none ]

pub views-table_gone : (state : State) (name : Name) → IsLawful state → some_view state (names_query name) ≡ false → Each state.views (IsViewMeant (without_table state name))
views-table_gone state name lawful unused q query there =
    let was = lawful.views.each q query there in
    let new = without_table state name in
    view_kept state new q query was
    (still_none state.tables name q was.is.no_table)
    (all_both (λ n. IsTrue (has_table_or_view state n)) (λ n. same_name name n ≡ false) (λ n. IsTrue (has_table_or_view new n))
    (λ n known other. or_more (has state.tables n) (has (names.remove state.tables name) n) (has state.views n) (has_removed state.tables name n other) known)
    (names_in query) was.is.known (none_pass (same_name name) (names_in query) (none_there (names_query name) state.views unused q query there)))
    was.is.alignments
    (windows_kept state new (λ route has_it. has_it) (λ route referent has_it. has_it) query was.is.windows)
    refl
    (pass_but (same_name name) (λ window. false) (λ n. false) state new
    (λ n apart one at. still_same new.tables n one (removed_other state.tables name n (same_name-back n name ∙ apart) ∙ at)) (λ window none on. on) (λ n none pieces at. at) lawful
    (λ n w at. record { table = none_there (names_query name) state.views unused n w at; window = none_any (windows_in w); alignment = none_any (alignments_in w) })
    q query there)

-- ---- one view more

-- names that are there are another than one that isn't
pub known_avoids : (state : State) (name : Name) (query : QueryTree) → has_table_or_view state name ≡ false → AreKnown state (names_in query) → Avoids name query
known_avoids state name query none known =
    all_weaker (λ n. IsTrue (has_table_or_view state n)) (λ n. same_name name n ≡ false)
    (λ n there. elim (same_name name n) as (λ same. same_name name n ≡ same → same ≡ false) [
      | true ↦ λ same. false_true (sym none ∙ ap (has_table_or_view state) (same_name-true name n same) ∙ there)
      | false ↦ λ same. refl
    ] refl)
    (names_in query) known

module _ (state : State) (name : Name) (query : QueryTree) (lawful : IsLawful state) (none : has_table_or_view state name ≡ false) (known : AreKnown state (names_in query)) where
  abbrev more : State
  more = with_view state name query

  no_view : has state.views name ≡ false
  no_view = (either_false (has state.tables name) (has state.views name) none).1

  others : Each state.views (λ n q. Avoids name q)
  others n q there = known_avoids state name q none (lawful.views.each n q there).is.known

  pub order-view_more : AreInOrder (names.insert state.views name query)
  order-view_more = order_more state.views name query no_view lawful.views.order (known_avoids state name query none known) others

  opens : (q : QueryTree) → Avoids name q → opened (names.insert state.views name query) q ≡ opened state.views q
  opens q avoids = opened_more state.views name query no_view lawful.views.order (known_avoids state name query none known) others q avoids

  known_more : (q : QueryTree) → AreKnown state (names_in q) → AreKnown more (names_in q)
  known_more q all =
      all_weaker (λ n. IsTrue (has_table_or_view state n)) (λ n. IsTrue (has_table_or_view more n))
      (λ n there. or_more_right (has state.tables n) (has state.views n) (has (names.insert state.views name query) n) (has_inserted state.views name query n) there) (names_in q) all

  windows_more : (q : QueryTree) → AllByRecursion (IsWindowOf state) (windows_in q) → AllByRecursion (IsWindowOf more) (windows_in q)
  windows_more q all = windows_kept state more (λ route has_it. has_it) (λ route referent has_it. has_it) q all

  at_view : IsViewMeant more name query → (q : Name) (other : QueryTree) → AtInserted state.views name query q other → IsViewMeant more q other
  at_view new q other (inl here) = subst (λ n. IsViewMeant more n other) (sym (same_name-true q name here.0)) (subst (IsViewMeant more name) here.1 new)
  at_view new q other (inr there) =
      let was = lawful.views.each q other there.1 in
      view_kept state more q other was was.is.no_table (known_more other was.is.known) was.is.alignments (windows_more other was.is.windows) (opens other (others q other there.1))
      (same_pass state more lawful refl refl refl q other there.1)

  pub views-view_more : IsName name → IsQuery query → (made : Query) → IsChecked state query made → Each (names.insert state.views name query) (IsViewMeant more)
  views-view_more named sound made is q other there =
      let same = sym (opens query (known_avoids state name query none known)) in
      let wide = passes state more (opened state.views query) (all_kept state more (still_same state.tables) (λ route on. on) (λ n pieces at. at) (opened state.views query)) made is.passes in
      at_view (record {
        is = record {
          named = named;
          sound = sound;
          no_table = (either_false (has state.tables name) (has state.views name) none).0;
          known = known_more query known;
          alignments = is.alignments;
          windows = windows_more query is.windows;
          few_nodes = subst (λ t. nodes t ≤ NODES) same is.few_nodes;
          not_deep = subst (λ t. depth t ≤ DEPTH) same is.not_deep;
        };
        checked = wide.made;
        passes = subst (λ t. nodes_checked more (widened t) ≡ Ok wide.made) same wide.is;
      }) q other (at_inserted state.views name query q other there)

-- ---- one view less

module _ (state : State) (name : Name) (dropped : QueryTree) (lawful : IsLawful state) (there : names.get state.views name ≡ Some dropped) (unused : some_view state (names_query name) ≡ false) where
  abbrev less : State
  less = without_view state name

  unnamed : Each state.views (λ n q. Avoids name q)
  unnamed n q at = none_pass (same_name name) (names_in q) (none_there (names_query name) state.views unused n q at)

  pub order-view_gone : AreInOrder (names.remove state.views name)
  order-view_gone = order_less state.views name dropped there lawful.views.order

  pub views-view_gone : Each (names.remove state.views name) (IsViewMeant less)
  views-view_gone q query at =
      let old = (at_removed state.views name q query at).1 in
      let was = lawful.views.each q query old in
      view_kept state less q query was was.is.no_table
      (all_both (λ n. IsTrue (has_table_or_view state n)) (λ n. same_name name n ≡ false) (λ n. IsTrue (has_table_or_view less n))
      (λ n known other. or_more_right (has state.tables n) (has state.views n) (has (names.remove state.views name) n) (has_removed state.views name n other) known)
      (names_in query) was.is.known (unnamed q query old))
      was.is.alignments
      (windows_kept state less (λ route has_it. has_it) (λ route referent has_it. has_it) query was.is.windows)
      (opened_less state.views name dropped there lawful.views.order (each_removed state.views (λ n q. Avoids name q) name unnamed) query (unnamed q query old))
      (same_pass state less lawful refl refl refl q query old)

-- ---- one alignment more, and one less

pub views-alignment_more : (state : State) (name : Name) (pieces : List Piece) → IsLawful state → has state.alignments name ≡ false → Each state.views (IsViewMeant (with_alignment state name pieces))
views-alignment_more state name pieces lawful none q query there =
    let was = lawful.views.each q query there in
    let new = with_alignment state name pieces in
    view_kept state new q query was was.is.no_table was.is.known
    (all_weaker (λ n. IsTrue (has state.alignments n)) (λ n. IsTrue (has new.alignments n)) (λ n has_it. has_inserted state.alignments name pieces n has_it) (alignments_in query) was.is.alignments)
    (windows_kept state new (λ route has_it. has_it) (λ route referent has_it. has_it) query was.is.windows)
    refl
    (all_pass state new lawful (still_same state.tables) (λ route on. on) (λ n other at. still_there state.alignments name pieces n other none at) q query there)

pub views-alignment_gone : (state : State) (name : Name) → IsLawful state → some_view state (names_alignment name) ≡ false → Each state.views (IsViewMeant (without_alignment state name))
views-alignment_gone state name lawful unused q query there =
    let was = lawful.views.each q query there in
    let new = without_alignment state name in
    view_kept state new q query was was.is.no_table was.is.known
    (all_both (λ n. IsTrue (has state.alignments n)) (λ n. same_name name n ≡ false) (λ n. IsTrue (has new.alignments n)) (λ n has_it other. has_removed state.alignments name n other has_it)
    (alignments_in query) was.is.alignments (none_pass (same_name name) (alignments_in query) (none_there (names_alignment name) state.views unused q query there)))
    (windows_kept state new (λ route has_it. has_it) (λ route referent has_it. has_it) query was.is.windows)
    refl
    (pass_but (λ n. false) (λ window. false) (same_name name) state new
    (λ n none. still_same state.tables n) (λ window none on. on) (λ n apart other at. removed_other state.alignments name n (same_name-back n name ∙ apart) ∙ at) lawful
    (λ n w at. record { table = none_any (names_in w); window = none_any (windows_in w); alignment = none_there (names_alignment name) state.views unused n w at })
    q query there)

-- ---- one route less

module _ (state : State) (name : Name) where
  abbrev fewer : State
  fewer = without_route state name

  referent_stays : (route n : Name) → same_name name route ≡ false → IsTrue (has_referent state route n) → IsTrue (has_referent fewer route n)
  unfolding referents_at
  referent_stays route n other is = ap (λ same. same_name start_name n || has (if same then names.empty else state.referents route) n) (same_name-back route name ∙ other) ∙ is

  window_stays : (window : WindowTree) → IsWindowOf state window → window_on name window ≡ false → IsWindowOf fewer window
  window_stays (whole_route route) is other = has_removed state.routes name route other is
  window_stays (part_of_route route from to) is other = (
    has_removed state.routes name route other is.0,
    referent_kept state fewer route (λ n has_it. referent_stays route n other has_it) from is.1,
    referent_kept state fewer route (λ n has_it. referent_stays route n other has_it) to is.2,
  )

  window_other : (window : WindowTree) → window_on name window ≡ false → same_name name (window_route window) ≡ false
  window_other (whole_route route) other = other
  window_other (part_of_route route from to) other = other

  pub views-route_gone : IsLawful state → some_view state (names_route name) ≡ false → Each state.views (IsViewMeant fewer)
  views-route_gone lawful unused q query there =
      let was = lawful.views.each q query there in
      view_kept state fewer q query was was.is.no_table was.is.known was.is.alignments
      (all_both (IsWindowOf state) (λ window. window_on name window ≡ false) (IsWindowOf fewer) window_stays (windows_in query) was.is.windows
      (none_pass (window_on name) (windows_in query) (none_there (names_route name) state.views unused q query there)))
      refl
      (pass_but (λ n. false) (window_on name) (λ n. false) state fewer
      (λ n none. still_same state.tables n)
      (λ window other on. (on.0, removed_other state.routes name (window_route window) (same_name-back (window_route window) name ∙ window_other window other) ∙ on.1))
      (λ n none pieces at. at) lawful
      (λ n w at. record { table = none_any (names_in w); window = none_there (names_route name) state.views unused n w at; alignment = none_any (alignments_in w) })
      q query there)

-- ---- referents of a route

module _ (state : State) (route name : Name) (measure : ℕ) where
  abbrev put : State
  put = with_referents state route (names.insert (state.referents route) name measure)

  referent_put : (r n : Name) → IsTrue (has_referent state r n) → IsTrue (has_referent put r n)
  unfolding referents_at
  referent_put r n is =
      elim (same_name r route) as (λ same. same_name r route ≡ same → IsTrue (same_name start_name n || has (if same then names.insert (state.referents route) name measure else state.referents r) n)) [
        | true ↦ λ same. or_more_right (same_name start_name n) (has (state.referents r) n) (has (names.insert (state.referents route) name measure) n)
            (λ h. has_inserted (state.referents route) name measure n (ap (λ x. has (state.referents x) n) (sym (same_name-true r route same)) ∙ h)) is
        | false ↦ λ same. is
      ] refl

  pub views-referent_put : IsLawful state → Each state.views (IsViewMeant put)
  views-referent_put lawful q query there =
      let was = lawful.views.each q query there in
      view_kept state put q query was was.is.no_table was.is.known was.is.alignments (windows_kept state put (λ r has_it. has_it) referent_put query was.is.windows) refl
      (same_pass state put lawful refl refl refl q query there)

module _ (state : State) (route name : Name) where
  abbrev gone : State
  gone = with_referents state route (names.remove (state.referents route) name)

  and_second : (a b : Bool) → a && b ≡ false → a ≡ true → b ≡ false
  and_second true b none here = none
  and_second false b none here = false_true here

  and_either : (a b c : Bool) → a && (b || c) ≡ false → (a && b ≡ false) × (a && c ≡ false)
  and_either true b c none = either_false b c none
  and_either false b c none = (refl, refl)

  not_gone : (r n : Name) → same_name route r && same_name name n ≡ false → IsTrue (has_referent state r n) → IsTrue (has_referent gone r n)
  unfolding referents_at
  not_gone r n other is =
      elim (same_name r route) as (λ same. same_name r route ≡ same → IsTrue (same_name start_name n || has (if same then names.remove (state.referents route) name else state.referents r) n)) [
        | true ↦ λ same. or_more_right (same_name start_name n) (has (state.referents r) n) (has (names.remove (state.referents route) name) n)
            (λ h. has_removed (state.referents route) name n (and_second (same_name route r) (same_name name n) other (same_name-back route r ∙ same)) (ap (λ x. has (state.referents x) n) (sym (same_name-true r route same)) ∙ h)) is
        | false ↦ λ same. is
      ] refl

  position_stays : (r : Name) (position : PositionExpression) → same_name route r && position_by name position ≡ false → HasItsReferent state r position → HasItsReferent gone r position
  position_stays r (absolute measure) other is = tt
  position_stays r (beyond n measure) other is = not_gone r n other is
  position_stays r (before n measure) other is = not_gone r n other is
  position_stays r (interpolative part) other is = tt

  window_without : (window : WindowTree) → IsWindowOf state window → window_by route name window ≡ false → IsWindowOf gone window
  window_without (whole_route r) is other = is
  window_without (part_of_route r from to) is other =
      let parts = and_either (same_name route r) (position_by name from) (position_by name to) other in
      (is.0, position_stays r from parts.0 is.1, position_stays r to parts.1 is.2)

  pub views-referent_gone : IsLawful state → some_view state (names_referent route name) ≡ false → Each state.views (IsViewMeant gone)
  views-referent_gone lawful unused q query there =
      let was = lawful.views.each q query there in
      view_kept state gone q query was was.is.no_table was.is.known was.is.alignments
      (all_both (IsWindowOf state) (λ window. window_by route name window ≡ false) (IsWindowOf gone) window_without (windows_in query) was.is.windows
      (none_pass (window_by route name) (windows_in query) (none_there (names_referent route name) state.views unused q query there)))
      refl
      (same_pass state gone lawful refl refl refl q query there)

-- ---- indexes and cursors, of which views say nothing

pub views-indexes : (state : State) (indexes : Names IndexedColumn) (changes : ℕ) → IsLawful state → Each state.views (IsViewMeant (record state { indexes = indexes; changes = changes }))
views-indexes state indexes changes lawful q query there =
    let was = lawful.views.each q query there in
    let new = record state { indexes = indexes; changes = changes } in
    view_kept state new q query was was.is.no_table was.is.known was.is.alignments was.is.windows refl (same_pass state new lawful refl refl refl q query there)

pub views-cursors : (state : State) (cursors : ℕ → Cursors) → IsLawful state → Each state.views (IsViewMeant (record state { cursors = cursors }))
views-cursors state cursors lawful q query there =
    let was = lawful.views.each q query there in
    let new = record state { cursors = cursors } in
    view_kept state new q query was was.is.no_table was.is.known was.is.alignments was.is.windows refl (same_pass state new lawful refl refl refl q query there)
