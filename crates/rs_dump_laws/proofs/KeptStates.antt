-- A lawful state without some of its views and alignments is lawful, and its views pass.
use Rattle.std.proofs.Common.{◌≡◌, ◌∙◌, ℕ, zero, suc, ◌≤◌, Bool, true, false, ◌||◌, List, [], ◌∷◌, ◌++◌, Option, Some, None, is_some, Result, Ok, Err, refl, sym, ap, subst, arith}
use Rattle.std.specs.Prelude.{unwrap_or, nat_le}
use Rattle.std.specs.List.{AllByRecursion}
use Rattle.std.specs.FinMap as names
use Rattle.std.proofs.lemmas.Bool.{and_from, le-leb}
use Rattle.rs_refusal.specs.declared.refusal.Refusal.{Refusal}
use Rattle.rs_refusal.specs.declared.refusal.Refusal.TheVariants.{Limit, NoSuchName}
use Rattle.rs_facts.specs.Fact.{Name, Names}
use Rattle.rs_facts.specs.Query.{Query, merge_rows, minus_rows, transform_rows, window_rows}
use Rattle.rs_syntax.specs.Tree.{QueryTree, covered, dissolved, filtered, gapped, merged, named, overlaid, part_of_route, renamed, subtracted, transformed, whole_route, windowed}
use Rattle.rs_machine.specs.State.{State, has}
use Rattle.rs_machine.specs.Checks.{◌>>=◌, found, has_table_or_view, unless}
use Rattle.rs_machine.specs.Checking.{alike, alignments_known, checked, cover_checked, dissolve_checked, filter_checked, fits_limits, gaps_checked, names_known, nodes_checked, overlay_checked, rename_checked, window_checked}
use Rattle.rs_machine.specs.Lawful.{AreAlignments, AreKnown, IsLawful, IsViewMeant, widened}
use Rattle.rs_machine.specs.Opening.{alignments_in, depth, names_in, nodes, opened, opened_once, opened_times}
use Rattle.rs_machine.specs.declared.limits.TheConstants.{DEPTH, NODES}
use Rattle.rs_dump_laws.specs.Dump.{ViewsPass}
use Rattle.rs_dump_laws.specs.Kept.{IsKeeping, Keeping, kept_of}
use Rattle.rs_dump_laws.proofs.KeptViews.{KeptFirst, begun_all, kept_fewer, kept_first, put_both, still_kept, was_kept}
use Rattle.rs_dump_laws.proofs.ListedParts.{entries_all}
use Rattle.rs_dump_laws.proofs.Lists.{all_append, all_back, all_both, all_front}
use Rattle.rs_dump_laws.proofs.MoreViews.{IsBegun, no_views, opened_all}
use Rattle.rs_dump_laws.proofs.NamedThings.{all_named, all_new, itself, put_all_named}
use Rattle.rs_dump_laws.proofs.Rebuilding.{none_under}
use Rattle.rs_dump_laws.proofs.ViewOrders.{ordered}
use Rattle.rs_dump_laws.proofs.Walks.{holds, next_is}

-- ---- checks that passed

-- what a check let through
pub then_ok : {A B : Type 0} (check : Result A Refusal) (next : A → Result B Refusal) (made : B) → (check >>= next) ≡ Ok made → (a : A) × (next a ≡ Ok made)
then_ok (Ok a) next made e = (a, e)
then_ok {A} {B} (Err refusal) next made e = absurd (let wrong : ◌≡◌ {A = Result B Refusal} (Err refusal) (Ok made) = e in cc)

pub nodes_passed : (state : State) (query : QueryTree) (made : Query) → checked state query ≡ Ok made → nodes_checked state (opened state.views query) ≡ Ok made
nodes_passed state query made e =
    let one = then_ok (names_known state (names_in query)) (λ _. alignments_known state (alignments_in query) >>= (λ _. unless (fits_limits (opened state.views query)) Limit >>= (λ _. nodes_checked state (opened state.views query)))) made e in
    let two = then_ok (alignments_known state (alignments_in query)) (λ _. unless (fits_limits (opened state.views query)) Limit >>= (λ _. nodes_checked state (opened state.views query))) made one.1 in
    (then_ok (unless (fits_limits (opened state.views query)) Limit) (λ _. nodes_checked state (opened state.views query)) made two.1).1

pub known_ok : (state : State) (list : List Name) → AreKnown state list → names_known state list ≡ Ok tt
known_ok state [] known = refl
known_ok state (name ∷ list) known = ap (λ b. unless b NoSuchName >>= (λ _. names_known state list)) known.0 ∙ known_ok state list known.1

pub aligned_ok : (state : State) (list : List Name) → AreAlignments state list → alignments_known state list ≡ Ok tt
aligned_ok state [] known = refl
aligned_ok state (name ∷ list) known = ap (λ b. unless b NoSuchName >>= (λ _. alignments_known state list)) known.0 ∙ aligned_ok state list known.1

-- ---- what queries name, opened

module _ (IsGoodName IsGoodAlignment : Name → Type 0) where
  -- the names of tables and views are such, and those of alignments
  pub record IsGood (query : QueryTree) : Type 0 where
    pub names : AllByRecursion IsGoodName (names_in query)
    pub alignments : AllByRecursion IsGoodAlignment (alignments_in query)

  record IsGoodPair (a b : QueryTree) : Type 0 where
    one : IsGood a
    other : IsGood b

  split : (a b : QueryTree) → AllByRecursion IsGoodName (names_in a ++ names_in b) → AllByRecursion IsGoodAlignment (alignments_in a ++ alignments_in b) → IsGoodPair a b
  split a b ns als = record {
    one = record { names = all_front IsGoodName (names_in a) (names_in b) ns; alignments = all_front IsGoodAlignment (alignments_in a) (alignments_in b) als };
    other = record { names = all_back IsGoodName (names_in a) (names_in b) ns; alignments = all_back IsGoodAlignment (alignments_in a) (alignments_in b) als };
  }

  join_names : (a b : QueryTree) → IsGood a → IsGood b → AllByRecursion IsGoodName (names_in a ++ names_in b)
  join_names a b one other = all_append IsGoodName (names_in a) (names_in b) one.names other.names

  join_alignments : (a b : QueryTree) → IsGood a → IsGood b → AllByRecursion IsGoodAlignment (alignments_in a ++ alignments_in b)
  join_alignments a b one other = all_append IsGoodAlignment (alignments_in a) (alignments_in b) one.alignments other.alignments

  module _ (views : Names QueryTree) (each : (name : Name) (query : QueryTree) → names.get views name ≡ Some query → IsGoodName name → IsGood query) where
    good_named : (name : Name) (o : Option QueryTree) → names.get views name ≡ o → IsGoodName name → IsGood (unwrap_or o (named name))
    good_named name None there good = record { names = (good, tt); alignments = tt }
    good_named name (Some query) there good = each name query there good

    good_once : (query : QueryTree) → IsGood query → IsGood (opened_once views query)
    good_once (named name) good = good_named name (names.get views name) refl good.names.0
    good_once (filtered query condition) good = let rest = good_once query (record { names = good.names; alignments = good.alignments }) in record { names = rest.names; alignments = rest.alignments }
    good_once (dissolved query columns) good = let rest = good_once query (record { names = good.names; alignments = good.alignments }) in record { names = rest.names; alignments = rest.alignments }
    good_once (renamed query from to) good = let rest = good_once query (record { names = good.names; alignments = good.alignments }) in record { names = rest.names; alignments = rest.alignments }
    good_once (gapped query) good = let rest = good_once query (record { names = good.names; alignments = good.alignments }) in record { names = rest.names; alignments = rest.alignments }
    good_once (windowed query window) good = let rest = good_once query (record { names = good.names; alignments = good.alignments }) in record { names = rest.names; alignments = rest.alignments }
    good_once (transformed query alignment) good =
        let rest = good_once query (record { names = good.names; alignments = all_front IsGoodAlignment (alignments_in query) (alignment ∷ []) good.alignments }) in
        record { names = rest.names; alignments = all_append IsGoodAlignment (alignments_in (opened_once views query)) (alignment ∷ []) rest.alignments (all_back IsGoodAlignment (alignments_in query) (alignment ∷ []) good.alignments) }
    good_once (overlaid a b) good =
        let parts = split a b good.names good.alignments in let x = good_once a parts.one in let y = good_once b parts.other in
        record { names = join_names (opened_once views a) (opened_once views b) x y; alignments = join_alignments (opened_once views a) (opened_once views b) x y }
    good_once (covered a b) good =
        let parts = split a b good.names good.alignments in let x = good_once a parts.one in let y = good_once b parts.other in
        record { names = join_names (opened_once views a) (opened_once views b) x y; alignments = join_alignments (opened_once views a) (opened_once views b) x y }
    good_once (merged a b) good =
        let parts = split a b good.names good.alignments in let x = good_once a parts.one in let y = good_once b parts.other in
        record { names = join_names (opened_once views a) (opened_once views b) x y; alignments = join_alignments (opened_once views a) (opened_once views b) x y }
    good_once (subtracted a b) good =
        let parts = split a b good.names good.alignments in let x = good_once a parts.one in let y = good_once b parts.other in
        record { names = join_names (opened_once views a) (opened_once views b) x y; alignments = join_alignments (opened_once views a) (opened_once views b) x y }

    good_times : (times : ℕ) (query : QueryTree) → IsGood query → IsGood (opened_times times views query)
    good_times zero query good = good
    good_times (suc times) query good = good_times times (opened_once views query) (good_once query good)

    pub good_opened : (query : QueryTree) → IsGood query → IsGood (opened views query)
    unfolding opened
    good_opened query good = good_times (names.len views) query good

alignments_wide : (query : QueryTree) → alignments_in (widened query) ≡ alignments_in query
alignments_wide (named name) = refl
alignments_wide (filtered query condition) = alignments_wide query
alignments_wide (dissolved query columns) = alignments_wide query
alignments_wide (renamed query from to) = alignments_wide query
alignments_wide (overlaid a b) = λ i. alignments_wide a i ++ alignments_wide b i
alignments_wide (covered a b) = λ i. alignments_wide a i ++ alignments_wide b i
alignments_wide (merged a b) = λ i. alignments_wide a i ++ alignments_wide b i
alignments_wide (subtracted a b) = λ i. alignments_wide a i ++ alignments_wide b i
alignments_wide (windowed query window) = alignments_wide query
alignments_wide (transformed query alignment) = ap (λ l. l ++ alignment ∷ []) (alignments_wide query)
alignments_wide (gapped query) = alignments_wide query

-- ---- the state without those that are left out

module _ (state : State) (keeping : Keeping) where
  abbrev kept : State
  kept = kept_of keeping state

  abbrev KeepsAlignments : List Name → Type 0
  KeepsAlignments list = AllByRecursion (λ other. keeping.alignment other ≡ true) list

  left_of : (a b : QueryTree) → KeepsAlignments (alignments_in a ++ alignments_in b) → KeepsAlignments (alignments_in a)
  left_of a b all = all_front (λ other. keeping.alignment other ≡ true) (alignments_in a) (alignments_in b) all

  right_of : (a b : QueryTree) → KeepsAlignments (alignments_in a ++ alignments_in b) → KeepsAlignments (alignments_in b)
  right_of a b all = all_back (λ other. keeping.alignment other ≡ true) (alignments_in a) (alignments_in b) all

  -- nodes are checked alike, where the alignments are kept
  nodes_kept : (tree : QueryTree) → KeepsAlignments (alignments_in tree) → nodes_checked kept tree ≡ nodes_checked state tree
  nodes_kept (named name) all = refl
  nodes_kept (filtered a condition) all = ap (λ (r : Result Query Refusal). r >>= (λ q. filter_checked state q condition)) (nodes_kept a all)
  nodes_kept (dissolved a columns) all = ap (λ (r : Result Query Refusal). r >>= (λ q. dissolve_checked state q columns)) (nodes_kept a all)
  nodes_kept (renamed a from to) all = ap (λ (r : Result Query Refusal). r >>= (λ q. rename_checked state q from to)) (nodes_kept a all)
  nodes_kept (gapped a) all = ap (λ (r : Result Query Refusal). r >>= (λ q. gaps_checked state q)) (nodes_kept a all)
  nodes_kept (overlaid a b) all = λ i. nodes_kept a (left_of a b all) i >>= (λ x. nodes_kept b (right_of a b all) i >>= (λ y. overlay_checked state x y))
  nodes_kept (covered a b) all = λ i. nodes_kept a (left_of a b all) i >>= (λ x. nodes_kept b (right_of a b all) i >>= (λ y. cover_checked state x y))
  nodes_kept (merged a b) all = λ i. nodes_kept a (left_of a b all) i >>= (λ x. nodes_kept b (right_of a b all) i >>= (λ y. alike state x y >>= (λ _. Ok (merge_rows x y))))
  nodes_kept (subtracted a b) all = λ i. nodes_kept a (left_of a b all) i >>= (λ x. nodes_kept b (right_of a b all) i >>= (λ y. alike state x y >>= (λ _. Ok (minus_rows x y))))
  nodes_kept (windowed a (whole_route route)) all =
      ap (λ (r : Result Query Refusal). r >>= (λ q. window_checked state (whole_route route) >>= (λ located. Ok (window_rows q located)))) (nodes_kept a all)
  nodes_kept (windowed a (part_of_route route from to)) all =
      ap (λ (r : Result Query Refusal). r >>= (λ q. window_checked state (part_of_route route from to) >>= (λ located. Ok (window_rows q located)))) (nodes_kept a all)
  nodes_kept (transformed a alignment) all =
      let rest = nodes_kept a (all_front (λ other. keeping.alignment other ≡ true) (alignments_in a) (alignment ∷ []) all) in
      let there = still_kept state.alignments keeping.alignment alignment (all_back (λ other. keeping.alignment other ≡ true) (alignments_in a) (alignment ∷ []) all).0 in
      λ i. rest i >>= (λ q. found (there i) NoSuchName >>= (λ pieces. Ok (transform_rows q alignment pieces)))

  module _ (lawful : IsLawful state) (is : IsKeeping state keeping) where
    closed : (name : Name) (query : QueryTree) → names.get state.views name ≡ Some query → keeping.view name ≡ true → AllByRecursion (λ other. has state.views other ≡ true → keeping.view other ≡ true) (names_in query)
    closed name query there keeps = (is name query there keeps).views

    parts : KeptFirst state.views keeping.view closed
    parts = let views = ordered state.views lawful.views.order (names.entries state.views) (entries_all state.views) in kept_first state.views keeping.view closed views.list views.all views.before

    whole : put_all_named itself kept.views parts.left ≡ state.views
    whole =
        ap (λ views. put_all_named itself views parts.left) (sym (all_named kept.views parts.kept parts.all_kept))
        ∙ sym (put_both names.empty parts.kept parts.left)
        ∙ all_named state.views (parts.kept ++ parts.left) parts.all

    begun : IsBegun kept.views parts.left
    begun = subst (λ views. IsBegun views parts.left) (all_named kept.views parts.kept parts.all_kept)
        (begun_all names.empty parts.kept parts.left (record {
          order = no_views;
          new = all_new itself state.views (parts.kept ++ parts.left) parts.all;
          free = λ name query there. none_under name query there;
          before = parts.before;
        }))

    -- views that are kept open as in the state
    opened_kept : (name : Name) (query : QueryTree) → names.get kept.views name ≡ Some query → opened kept.views query ≡ opened state.views query
    opened_kept name query there = sym (opened_all kept.views parts.left begun query (begun.free name query there)) ∙ ap (λ views. opened views query) whole

    abbrev IsGoodQuery : QueryTree → Type 0
    IsGoodQuery = IsGood (λ other. has state.views other ≡ true → keeping.view other ≡ true) (λ other. keeping.alignment other ≡ true)

    good_view : (name : Name) (query : QueryTree) → names.get state.views name ≡ Some query → keeping.view name ≡ true → IsGoodQuery query
    good_view name query there keeps = let may = is name query there keeps in record { names = may.views; alignments = may.alignments }

    good_opening : (name : Name) (query : QueryTree) → names.get state.views name ≡ Some query → keeping.view name ≡ true → IsGoodQuery (opened state.views query)
    good_opening name query there keeps =
        good_opened (λ other. has state.views other ≡ true → keeping.view other ≡ true) (λ other. keeping.alignment other ≡ true) state.views
        (λ other q also good. good_view other q also (good (ap is_some also))) query (good_view name query there keeps)

    known_kept : (other : Name) → has_table_or_view state other ≡ true → (has state.views other ≡ true → keeping.view other ≡ true) → has_table_or_view kept other ≡ true
    known_kept other known keeps = by (has state.tables other) (has state.views other) refl known
      where
        by : (table view : Bool) → has state.views other ≡ view → (table || view) ≡ true → (table || has kept.views other) ≡ true
        by true view e known = refl
        by false true e known = ap is_some (still_kept state.views keeping.view other (keeps e)) ∙ e
        by false false e known = absurd (let wrong : false ≡ true = known in cc)

    view_meant : (name : Name) (query : QueryTree) → names.get kept.views name ≡ Some query → IsViewMeant kept name query
    view_meant name query there =
        let was = was_kept state.views keeping.view name query there in
        let old = lawful.views.each name query was.1 in
        let may = is name query was.1 was.0 in
        let opens = opened_kept name query there in
        let good = good_opening name query was.1 was.0 in
        let few = old.is.few_nodes in
        let flat = old.is.not_deep in
        record {
          is = record {
            named = old.is.named;
            sound = old.is.sound;
            no_table = old.is.no_table;
            known = all_both (λ other. has_table_or_view state other ≡ true) (λ other. has state.views other ≡ true → keeping.view other ≡ true) (λ other. has_table_or_view kept other ≡ true) known_kept (names_in query) old.is.known may.views;
            alignments = all_both (λ other. has state.alignments other ≡ true) (λ other. keeping.alignment other ≡ true) (λ other. has kept.alignments other ≡ true)
                (λ other known keeps. ap is_some (still_kept state.alignments keeping.alignment other keeps) ∙ known) (alignments_in query) old.is.alignments may.alignments;
            windows = old.is.windows;
            few_nodes = subst (λ q. nodes q ≤ NODES) (sym opens) few;
            not_deep = subst (λ q. depth q ≤ DEPTH) (sym opens) flat;
          };
          checked = old.checked;
          passes = ap (λ q. nodes_checked kept (widened q)) opens
              ∙ nodes_kept (widened (opened state.views query)) (subst KeepsAlignments (sym (alignments_wide (opened state.views query))) good.alignments)
              ∙ old.passes;
        }

    pub kept_lawful : IsLawful kept
    kept_lawful =
        let few_views = kept_fewer state.views keeping.view in
        let few_alignments = kept_fewer state.alignments keeping.alignment in
        let most_views = lawful.limits.views in
        let most_alignments = lawful.limits.alignments in
        record {
          routes = lawful.routes;
          referents_named = record { each = lawful.referents_named.each };
          referents = lawful.referents;
          tables = lawful.tables;
          views = record { each = view_meant; order = begun.order };
          alignments = λ name pieces there. lawful.alignments name pieces (was_kept state.alignments keeping.alignment name pieces there).1;
          indexes = lawful.indexes;
          cursors = lawful.cursors;
          limits = record {
            routes = lawful.limits.routes;
            referents = lawful.limits.referents;
            tables = lawful.limits.tables;
            indexes = lawful.limits.indexes;
            views = omega arith;
            alignments = omega arith;
            changes = lawful.limits.changes;
          };
        }

    pub kept_pass : ViewsPass kept
    kept_pass name query there =
        let was = was_kept state.views keeping.view name query there in
        let may = is name query was.1 was.0 in
        let meant = view_meant name query there in
        let good = good_opening name query was.1 was.0 in
        let few = meant.is.few_nodes in
        let flat = meant.is.not_deep in
        let size = opened kept.views query in (
          may.made,
          next_is (names_known kept (names_in query)) tt _ (known_ok kept (names_in query) meant.is.known)
              ∙ next_is (alignments_known kept (alignments_in query)) tt _ (aligned_ok kept (alignments_in query) meant.is.alignments)
              ∙ next_is (unless (fits_limits size) Limit) tt _ (holds (fits_limits size) Limit (and_from (nat_le (nodes size) NODES) (nat_le (depth size) DEPTH) (le-leb (nodes size) NODES few) (le-leb (depth size) DEPTH flat)))
              ∙ ap (nodes_checked kept) (opened_kept name query there)
              ∙ nodes_kept (opened state.views query) good.alignments
              ∙ nodes_passed state query may.made may.passes,
        )
