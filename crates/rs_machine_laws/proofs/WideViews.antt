-- Views are meant just where their widened ones pass the checks of a query.
use Rattle.std.proofs.Common.{◌≡◌, ◌∙◌, ℕ, zero, suc, ◌≤◌, Bool, true, false, ◌||◌, max, ◌+◌, List, [], ◌∷◌, ◌++◌, Option, Some, None, is_some, Ok, refl, sym, ap, subst}
use Rattle.std.specs.Prelude.{IsTrue, nat_le, unwrap_or}
use Rattle.std.specs.List.{AllByRecursion, list_any}
use Rattle.std.specs.Option.{option_map}
use Rattle.std.specs.FinMap as names
use Rattle.std.proofs.lemmas.Bool.{and_from, le-leb}
use Rattle.rs_facts.specs.Fact.{Name, Names}
use Rattle.rs_facts.specs.Query.{Query}
use Rattle.rs_refusal.specs.declared.refusal.Refusal.TheVariants.{Limit, NoSuchName}
use Rattle.rs_syntax.specs.Tree.{QueryTree, covered, dissolved, filtered, gapped, merged, named, overlaid, renamed, subtracted, transformed, whole_route, windowed}
use Rattle.rs_machine.specs.declared.limits.TheConstants.{DEPTH, NODES}
use Rattle.rs_machine.specs.State.{State, has}
use Rattle.rs_machine.specs.Checking.{alignments_known, checked, fits_limits, names_known, nodes_checked}
use Rattle.rs_machine.specs.Checks.{◌>>=◌, has_table_or_view, table_named, unless, window_route}
use Rattle.rs_machine.specs.Lawful.{AreAlignments, AreKnown, AreViewsMeant, Each, IsViewMeant, widened}
use Rattle.rs_machine.specs.Opening.{alignments_in, depth, names_in, nodes, opened, opened_once, opened_times}
use Rattle.rs_machine_laws.specs.WideViews.{AreWidened, PassesWidened}
use Rattle.rs_machine_laws.proofs.Checked.{then_ok, was_found}
use Rattle.rs_machine_laws.proofs.Keeping.{all_kept, still_same}
use Rattle.rs_machine_laws.proofs.Lists.{all_append, all_weaker}
use Rattle.rs_machine_laws.proofs.Names.{false_true}
use Rattle.rs_machine_laws.proofs.Passing.{passes_wide}
use Rattle.rs_machine_laws.proofs.ViewHeights.{in_order}
use Rattle.rs_machine_laws.proofs.Windows.{checks-passed}

-- ---- a widened query

names_wide : (query : QueryTree) → names_in (widened query) ≡ names_in query
names_wide (named name) = refl
names_wide (filtered query condition) = names_wide query
names_wide (dissolved query columns) = names_wide query
names_wide (renamed query from to) = names_wide query
names_wide (overlaid a b) = λ i. names_wide a i ++ names_wide b i
names_wide (covered a b) = λ i. names_wide a i ++ names_wide b i
names_wide (merged a b) = λ i. names_wide a i ++ names_wide b i
names_wide (subtracted a b) = λ i. names_wide a i ++ names_wide b i
names_wide (windowed query window) = names_wide query
names_wide (transformed query alignment) = names_wide query
names_wide (gapped query) = names_wide query

alignments_wide : (query : QueryTree) → alignments_in (widened query) ≡ alignments_in query
alignments_wide (named name) = refl
alignments_wide (filtered query condition) = alignments_wide query
alignments_wide (dissolved query columns) = alignments_wide query
alignments_wide (renamed query from to) = alignments_wide query
alignments_wide (overlaid a b) = λ i. alignments_wide a i ++ alignments_wide b i
alignments_wide (covered a b) = λ i. alignments_wide a i ++ alignments_wide b i
alignments_wide (merged a b) = λ i. alignments_wide a i ++ alignments_wide b i
alignments_wide (subtracted a b) = λ i. alignments_wide a i ++ alignments_wide b i
alignments_wide (windowed query window) = alignments_wide query
alignments_wide (transformed query alignment) = ap (λ l. l ++ alignment ∷ []) (alignments_wide query)
alignments_wide (gapped query) = alignments_wide query

nodes_wide : (query : QueryTree) → nodes (widened query) ≡ nodes query
nodes_wide (named name) = refl
nodes_wide (filtered query condition) = ap (λ n. n + 1) (nodes_wide query)
nodes_wide (dissolved query columns) = ap (λ n. n + 1) (nodes_wide query)
nodes_wide (renamed query from to) = ap (λ n. n + 1) (nodes_wide query)
nodes_wide (overlaid a b) = λ i. nodes_wide a i + nodes_wide b i + 1
nodes_wide (covered a b) = λ i. nodes_wide a i + nodes_wide b i + 1
nodes_wide (merged a b) = λ i. nodes_wide a i + nodes_wide b i + 1
nodes_wide (subtracted a b) = λ i. nodes_wide a i + nodes_wide b i + 1
nodes_wide (windowed query window) = ap (λ n. n + 1) (nodes_wide query)
nodes_wide (transformed query alignment) = ap (λ n. n + 1) (nodes_wide query)
nodes_wide (gapped query) = ap (λ n. n + 1) (nodes_wide query)

depth_wide : (query : QueryTree) → depth (widened query) ≡ depth query
depth_wide (named name) = refl
depth_wide (filtered query condition) = ap (λ n. n + 1) (depth_wide query)
depth_wide (dissolved query columns) = ap (λ n. n + 1) (depth_wide query)
depth_wide (renamed query from to) = ap (λ n. n + 1) (depth_wide query)
depth_wide (overlaid a b) = λ i. max (depth_wide a i) (depth_wide b i) + 1
depth_wide (covered a b) = λ i. max (depth_wide a i) (depth_wide b i) + 1
depth_wide (merged a b) = λ i. max (depth_wide a i) (depth_wide b i) + 1
depth_wide (subtracted a b) = λ i. max (depth_wide a i) (depth_wide b i) + 1
depth_wide (windowed query window) = ap (λ n. n + 1) (depth_wide query)
depth_wide (transformed query alignment) = ap (λ n. n + 1) (depth_wide query)
depth_wide (gapped query) = ap (λ n. n + 1) (depth_wide query)

-- ---- the tables of a query that passes

all_tables : State → QueryTree → Type 0
all_tables state tree = AllByRecursion (λ name. has state.tables name ≡ true) (names_in tree)

both_tables : (state : State) (a b : QueryTree) → all_tables state a → all_tables state b → AllByRecursion (λ name. has state.tables name ≡ true) (names_in a ++ names_in b)
unfolding all_tables
both_tables state a b one other = all_append (λ name. has state.tables name ≡ true) (names_in a) (names_in b) one other

nodes_tables : (state : State) (tree : QueryTree) (query : Query) → nodes_checked state tree ≡ Ok query → all_tables state tree
unfolding all_tables
nodes_tables state (named name) query e =
    let table = then_ok (table_named state name) _ query e in
    (ap is_some (was_found (names.get state.tables name) NoSuchName table.0 table.1), tt)
nodes_tables state (filtered a condition) query e = let x = then_ok (nodes_checked state a) _ query e in nodes_tables state a x.0 x.1
nodes_tables state (dissolved a columns) query e = let x = then_ok (nodes_checked state a) _ query e in nodes_tables state a x.0 x.1
nodes_tables state (renamed a from to) query e = let x = then_ok (nodes_checked state a) _ query e in nodes_tables state a x.0 x.1
nodes_tables state (windowed a window) query e = let x = then_ok (nodes_checked state a) _ query e in nodes_tables state a x.0 x.1
nodes_tables state (transformed a alignment) query e = let x = then_ok (nodes_checked state a) _ query e in nodes_tables state a x.0 x.1
nodes_tables state (gapped a) query e = let x = then_ok (nodes_checked state a) _ query e in nodes_tables state a x.0 x.1
nodes_tables state (overlaid a b) query e =
    let x = then_ok (nodes_checked state a) _ query e in let y = then_ok (nodes_checked state b) _ query x.2 in both_tables state a b (nodes_tables state a x.0 x.1) (nodes_tables state b y.0 y.1)
nodes_tables state (covered a b) query e =
    let x = then_ok (nodes_checked state a) _ query e in let y = then_ok (nodes_checked state b) _ query x.2 in both_tables state a b (nodes_tables state a x.0 x.1) (nodes_tables state b y.0 y.1)
nodes_tables state (merged a b) query e =
    let x = then_ok (nodes_checked state a) _ query e in let y = then_ok (nodes_checked state b) _ query x.2 in both_tables state a b (nodes_tables state a x.0 x.1) (nodes_tables state b y.0 y.1)
nodes_tables state (subtracted a b) query e =
    let x = then_ok (nodes_checked state a) _ query e in let y = then_ok (nodes_checked state b) _ query x.2 in both_tables state a b (nodes_tables state a x.0 x.1) (nodes_tables state b y.0 y.1)

-- ---- the passes, where they find what they look for

known_ok : (state : State) (list : List Name) → AreKnown state list → names_known state list ≡ Ok tt
known_ok state [] known = refl
known_ok state (name ∷ list) known = ap (λ b. unless b NoSuchName >>= (λ _. names_known state list)) known.0 ∙ known_ok state list known.1

aligned_ok : (state : State) (list : List Name) → AreAlignments state list → alignments_known state list ≡ Ok tt
aligned_ok state [] known = refl
aligned_ok state (name ∷ list) known = ap (λ b. unless b NoSuchName >>= (λ _. alignments_known state list)) known.0 ∙ aligned_ok state list known.1

fits : (query : QueryTree) → nodes query ≤ NODES → depth query ≤ DEPTH → fits_limits query ≡ true
fits query few flat = and_from (nat_le (nodes query) NODES) (nat_le (depth query) DEPTH) (le-leb (nodes query) NODES few) (le-leb (depth query) DEPTH flat)

all_ok : (state : State) (query : QueryTree) (made : Query) → AreKnown state (names_in query) → AreAlignments state (alignments_in query) → fits_limits (opened state.views query) ≡ true
    → nodes_checked state (opened state.views query) ≡ Ok made → checked state query ≡ Ok made
all_ok state query made known aligned small passes =
    ap (λ r. r >>= (λ _. alignments_known state (alignments_in query) >>= (λ _. unless (fits_limits (opened state.views query)) Limit >>= (λ _. nodes_checked state (opened state.views query))))) (known_ok state (names_in query) known)
    ∙ ap (λ r. r >>= (λ _. unless (fits_limits (opened state.views query)) Limit >>= (λ _. nodes_checked state (opened state.views query)))) (aligned_ok state (alignments_in query) aligned)
    ∙ ap (λ b. unless b Limit >>= (λ _. nodes_checked state (opened state.views query))) small
    ∙ passes

-- ---- the same views widened

module _ (state : State) (others : Names QueryTree) (same : (name : Name) → names.get others name ≡ option_map widened (names.get state.views name)) (as_many : names.len others ≡ names.len state.views) where
  abbrev wide : State
  wide = record state { views = others }

  kept_some : (o : Option QueryTree) → is_some (option_map widened o) ≡ is_some o
  kept_some None = refl
  kept_some (Some query) = refl

  has_same : (name : Name) → has others name ≡ has state.views name
  has_same name = ap is_some (same name) ∙ kept_some (names.get state.views name)

  named_wide : (name : Name) (o : Option QueryTree) → unwrap_or (option_map widened o) (named name) ≡ widened (unwrap_or o (named name))
  named_wide name None = refl
  named_wide name (Some query) = refl

  once_wide : (query : QueryTree) → opened_once others (widened query) ≡ widened (opened_once state.views query)
  once_wide (named name) = ap (λ o. unwrap_or o (named name)) (same name) ∙ named_wide name (names.get state.views name)
  once_wide (filtered query condition) = ap (λ q. filtered q condition) (once_wide query)
  once_wide (dissolved query columns) = ap (λ q. dissolved q columns) (once_wide query)
  once_wide (renamed query from to) = ap (λ q. renamed q from to) (once_wide query)
  once_wide (overlaid a b) = λ i. overlaid (once_wide a i) (once_wide b i)
  once_wide (covered a b) = λ i. covered (once_wide a i) (once_wide b i)
  once_wide (merged a b) = λ i. merged (once_wide a i) (once_wide b i)
  once_wide (subtracted a b) = λ i. subtracted (once_wide a i) (once_wide b i)
  once_wide (windowed query window) = ap (λ q. windowed q (whole_route (window_route window))) (once_wide query)
  once_wide (transformed query alignment) = ap (λ q. transformed q alignment) (once_wide query)
  once_wide (gapped query) = ap gapped (once_wide query)

  times_wide : (times : ℕ) (query : QueryTree) → opened_times times others (widened query) ≡ widened (opened_times times state.views query)
  times_wide zero query = refl
  times_wide (suc times) query = ap (opened_times times others) (once_wide query) ∙ times_wide times (opened_once state.views query)

  opened_wide : (query : QueryTree) → opened others (widened query) ≡ widened (opened state.views query)
  unfolding opened
  opened_wide query = ap (λ n. opened_times n others (widened query)) as_many ∙ times_wide (names.len state.views) query

  -- what is known to one is known to the other
  known_from : (query : QueryTree) → AreKnown wide (names_in (widened query)) → AreKnown state (names_in query)
  known_from query known =
      all_weaker (λ name. IsTrue (has_table_or_view wide name)) (λ name. IsTrue (has_table_or_view state name)) (λ name is. ap (λ b. has state.tables name || b) (sym (has_same name)) ∙ is) (names_in query)
      (subst (AreKnown wide) (names_wide query) known)

  known_to : (query : QueryTree) → AreKnown state (names_in query) → AreKnown wide (names_in (widened query))
  known_to query known =
      subst (AreKnown wide) (sym (names_wide query))
      (all_weaker (λ name. IsTrue (has_table_or_view state name)) (λ name. IsTrue (has_table_or_view wide name)) (λ name is. ap (λ b. has state.tables name || b) (has_same name) ∙ is) (names_in query) known)

  -- the checks of nodes don't look at views
  passes_from : (query : QueryTree) (made : Query) → nodes_checked wide (widened query) ≡ Ok made → (other : Query) × (nodes_checked state (widened query) ≡ Ok other)
  passes_from query made e = passes_wide wide state query (all_kept wide state (still_same state.tables) (λ route on. on) (λ name pieces at. at) query) made e

  passes_to : (query : QueryTree) (made : Query) → nodes_checked state (widened query) ≡ Ok made → (other : Query) × (nodes_checked wide (widened query) ≡ Ok other)
  passes_to query made e = passes_wide state wide query (all_kept state wide (still_same state.tables) (λ route on. on) (λ name pieces at. at) query) made e

  -- ---- a view that passes is meant

  meant_one : (name : Name) (query : QueryTree) → PassesWidened state wide name query → IsViewMeant state name query
  meant_one name query is =
      let by = checks-passed wide (widened query) is.made is.passes in
      let opens = opened_wide query in
      let pass = passes_from (opened state.views query) is.made (subst (λ q. nodes_checked wide q ≡ Ok is.made) opens by.passes) in
      record {
        is = record {
          named = is.named;
          sound = is.sound;
          no_table = is.no_table;
          known = known_from query by.known;
          alignments = subst (AreAlignments state) (alignments_wide query) by.alignments;
          windows = is.windows;
          few_nodes = subst (λ n. n ≤ NODES) (ap nodes opens ∙ nodes_wide (opened state.views query)) by.few_nodes;
          not_deep = subst (λ n. n ≤ DEPTH) (ap depth opens ∙ depth_wide (opened state.views query)) by.not_deep;
        };
        checked = pass.0;
        passes = pass.1;
      }

  no_view : Each state.views (PassesWidened state wide) → (name : Name) (o : Option QueryTree) → names.get state.views name ≡ o → has state.tables name ≡ true → is_some o ≡ false
  no_view each name None there table = refl
  no_view each name (Some query) there table = false_true (sym (each name query there).no_table ∙ table)

  none_of : (test : Name → Bool) (list : List Name) → AllByRecursion (λ name. test name ≡ false) list → list_any test list ≡ false
  none_of test [] all = refl
  none_of test (name ∷ list) all = ap (λ b. b || list_any test list) all.0 ∙ none_of test list all.1

  none_left : Each state.views (PassesWidened state wide) → Each state.views (λ name query. list_any (λ n. has state.views n) (names_in (opened state.views query)) ≡ false)
  unfolding all_tables
  none_left each name query there =
      let meant = meant_one name query (each name query there) in
      let tables = nodes_tables state (widened (opened state.views query)) meant.checked meant.passes in
      let own = subst (AllByRecursion (λ n. has state.tables n ≡ true)) (names_wide (opened state.views query)) tables in
      none_of (λ n. has state.views n) (names_in (opened state.views query))
      (all_weaker (λ n. has state.tables n ≡ true) (λ n. has state.views n ≡ false) (λ n table. no_view each n (names.get state.views n) refl table) (names_in (opened state.views query)) own)

  meant_all : Each state.views (PassesWidened state wide) → AreViewsMeant state
  meant_all each = record { each = λ name query there. meant_one name query (each name query there); order = in_order state.views (none_left each) }

  -- ---- a view that is meant passes

  pass_all : AreViewsMeant state → Each state.views (PassesWidened state wide)
  pass_all meant name query there =
      let by = meant.each name query there in
      let opens = opened_wide query in
      let pass = passes_to (opened state.views query) by.checked by.passes in
      let small = fits (opened others (widened query))
      (subst (λ n. n ≤ NODES) (sym (ap nodes opens ∙ nodes_wide (opened state.views query))) by.is.few_nodes)
      (subst (λ n. n ≤ DEPTH) (sym (ap depth opens ∙ depth_wide (opened state.views query))) by.is.not_deep) in
      record {
        named = by.is.named;
        sound = by.is.sound;
        no_table = by.is.no_table;
        windows = by.is.windows;
        made = pass.0;
        passes = all_ok wide (widened query) pass.0 (known_to query by.is.known) (subst (AreAlignments state) (sym (alignments_wide query)) by.is.alignments) small
            (subst (λ q. nodes_checked wide q ≡ Ok pass.0) (sym opens) pass.1);
      }

module _ (state wide : State) (are : AreWidened state wide) where
  pub widened_are_meant : Each state.views (PassesWidened state wide) → AreViewsMeant state
  widened_are_meant each =
      meant_all state wide.views are.views are.as_many (subst (λ (other : State). Each state.views (PassesWidened state other)) are.others each)

  pub meant_pass_widened : AreViewsMeant state → Each state.views (PassesWidened state wide)
  meant_pass_widened meant =
      subst (λ (other : State). Each state.views (PassesWidened state other)) (sym are.others) (pass_all state wide.views are.views are.as_many meant)
