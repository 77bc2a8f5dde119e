-- Views that were entered, widened and then as they are written, are meant just where the widened ones pass.
use Rattle.std.proofs.Common.{◌≡◌, ◌≢◌, ◌&&◌, ℕ, true, false, cond, Option, Some, None, is_some, List, [], ◌∷◌, map, refl, sym, ap, subst, ◌∙◌}
use Rattle.std.specs.List.{AllByRecursion, AllZip, list_all}
use Rattle.std.specs.Option.{option_map}
use Rattle.std.specs.Ordering.{eq_by_cmp}
use Rattle.std.specs.FinMap as names
use Rattle.std.specs.FinMap.{find, get-entries}
use Rattle.std.proofs.lemmas.Bool.{and_parts, and_from}
use Rattle.rs_catalog.proofs.Names.{each_entry, entries-map_values, get-map_values, len-map_values}
use Rattle.rs_catalog.specs.Definitions as catalog
use Rattle.rs_catalog.specs.Definitions.{Definitions, Rest, referents_from, state_from, tables_from, views_of}
use Rattle.rs_catalog.specs.Names.{map_values}
use Rattle.rs_catalog_meaning.specs.Meaning as meaning
use Rattle.rs_catalog_meaning.specs.Meaning.{AreInOrder}
use Rattle.rs_catalog_pages.specs.Items.{TableItem, ViewItem}
use Rattle.rs_facts.specs.Fact.{Name, Names, name_cmp}
use Rattle.rs_facts.specs.Runs.{Stretch}
use Rattle.rs_file_meaning.proofs.Named.{get_by, same_name}
use Rattle.rs_file_meaning.specs.States.{HasLine, IsViewOf, named_table, tables_named}
use Rattle.rs_machine.specs.Lawful.{AreViewsMeant, Each, HasItsReferent, IsWindowOf, widened}
use Rattle.rs_machine.specs.Opening.{windows_in}
use Rattle.rs_machine.specs.State.{State, has}
use Rattle.rs_machine_laws.specs.WideViews.{AreWidened, PassesWidened}
use Rattle.rs_methods.specs.Position.{PositionExpression, absolute, before, beyond, interpolative}
use Rattle.rs_syntax.specs.QueryView.{query_tree}
use Rattle.rs_syntax.specs.Sound.{IsName}
use Rattle.rs_syntax.specs.Tree.{QueryTree, WindowTree, part_of_route, whole_route}
use Rattle.rs_stored_catalog.specs.EnteringViews.{AllPassIn, AreEntered, AreListedViews, AreWindowsThere, IsQueryOf, IsWidenedOf, IsWrittenOf, PassesIn}
use Rattle.rs_stored_catalog.specs.Views.{HasViews}
use Rattle.rs_stored_catalog.specs.Windows.{position_there, window_there}
use Rattle.rs_stored_catalog.proofs.EnteredViews.{Entry}

-- ---- maps and their entries

abbrev tree_entry : Entry → Name × QueryTree
tree_entry entry = (entry.0, query_tree entry.1.query)

abbrev wide_entry : Name × QueryTree → Name × QueryTree
wide_entry entry = (entry.0, widened entry.1)

some_map : {X Y : Type 0} (change : X → Y) (o : Option X) → is_some (option_map change o) ≡ is_some o
some_map change None = refl
some_map change (Some x) = refl

has_values : {X Y : Type 0} (change : X → Y) (values : Names X) (name : Name) → has (map_values change values) name ≡ has values name
has_values change values name = ap is_some (get-map_values change values name) ∙ some_map change (names.get values name)

none_some : {X : Type 0} {P : Type 0} (x : X) → None ≡ Some x → P
none_some x e = cc

some_one : {X : Type 0} (x y : X) → Some x ≡ Some y → x ≡ y
some_one x y e = cc

-- what is so of each entry is so of what is found
found_so : {X : Type 0} (IsSo : Name → X → Type 0) (entries : List (Name × X)) → AllByRecursion (λ e. IsSo e.0 e.1) entries → (name : Name) (x : X) → find name_cmp name entries ≡ Some x → IsSo name x
found_so IsSo [] all name x found = none_some x found
found_so IsSo (entry ∷ entries) all name x found =
    elim (eq_by_cmp name_cmp name entry.0) as (λ b. eq_by_cmp name_cmp name entry.0 ≡ b → cond b (Some entry.1) (find name_cmp name entries) ≡ Some x → IsSo name x) [
      | true ↦ λ same is. subst (λ y. IsSo name y) (some_one entry.1 x is) (subst (λ n. IsSo n entry.1) (sym (same_name name entry.0 same)) all.0)
      | false ↦ λ other is. found_so IsSo entries all.1 name x is
    ] refl found

each_from : {X : Type 0} (IsSo : Name → X → Type 0) (things : Names X) → AllByRecursion (λ e. IsSo e.0 e.1) (names.entries things) → Each things IsSo
each_from IsSo things all name x there = found_so IsSo (names.entries things) all name x (sym (get-entries things name) ∙ there)

all_of : {X : Type 0} (P Q : X → Type 0) → ((x : X) → P x → Q x) → (xs : List X) → AllByRecursion P xs → AllByRecursion Q xs
all_of P Q gives [] all = tt
all_of P Q gives (x ∷ xs) all = (gives x all.0, all_of P Q gives xs all.1)

each_to : {X : Type 0} (IsSo : Name → X → Type 0) (things : Names X) → Each things IsSo → AllByRecursion (λ e. IsSo e.0 e.1) (names.entries things)
each_to IsSo things each = all_of (λ e. names.get things e.0 ≡ Some e.1) (λ e. IsSo e.0 e.1) (λ e there. each e.0 e.1 there) (names.entries things) (each_entry things)

-- ---- tables

not_among : (tables : List TableItem) (name : Name) → AllByRecursion (λ (table : TableItem). table.name ≢ name) tables
    → find name_cmp name (map (λ (table : TableItem). (table.name, (named_table table).1)) tables) ≡ None
not_among [] name all = refl
not_among (table ∷ tables) name all =
    elim (eq_by_cmp name_cmp name table.name) as (λ b. eq_by_cmp name_cmp name table.name ≡ b
    → cond b (Some (named_table table).1) (find name_cmp name (map (λ (table : TableItem). (table.name, (named_table table).1)) tables)) ≡ None) [
      | true ↦ λ same. absurd (all.0 (sym (same_name name table.name same)))
      | false ↦ λ other. not_among tables name all.1
    ] refl

no_table : (tables : List TableItem) (name : Name) → AreInOrder (λ (table : TableItem). table.name) tables → AllByRecursion (λ (table : TableItem). table.name ≢ name) tables
    → has (tables_named tables) name ≡ false
no_table tables name order all =
    ap is_some (get_by (λ (table : TableItem). table.name) (λ table. (named_table table).1) tables name order ∙ not_among tables name all)

-- ---- views as they are written

pub written_views : (definitions : Definitions) (on : ℕ → Names ℕ) (views : List ViewItem) (made : List Entry) → AllZip (IsWrittenOf definitions on) views made → AllZip IsViewOf views made
written_views definitions on [] [] all = tt
written_views definitions on [] (n ∷ made) all = absurd all
written_views definitions on (view ∷ views) [] all = absurd all
written_views definitions on (view ∷ views) (n ∷ made) all = (all.0.is, written_views definitions on views made all.1)

-- ---- definitions that differ in their views

module _ (old : Definitions) (on : ℕ → Names ℕ) (spans_on : ℕ → ℕ → List Stretch) (rest : Rest) where
  abbrev with_views : Names catalog.ViewItem → Definitions
  with_views views = record old { views = views }

  abbrev state_with : Names catalog.ViewItem → State
  state_with views = state_from (with_views views) on spans_on rest

  states_but : (one other : Names catalog.ViewItem) → state_with one ≡ record (state_with other) { views = views_of (with_views one) }
  unfolding tables_from referents_from
  states_but one other = refl

  -- ---- windows

  module _ (one other : Names catalog.ViewItem) where
    position_is : (route : Name) (position : PositionExpression) → position_there (with_views one) on route position ≡ true → HasItsReferent (state_with other) route position
    unfolding referents_from
    position_is route (absolute measure) there = tt
    position_is route (beyond name measure) there = there
    position_is route (before name measure) there = there
    position_is route (interpolative part) there = tt

    window_is : (window : WindowTree) → window_there (with_views one) on window ≡ true → IsWindowOf (state_with other) window
    window_is (whole_route route) there = has_values (λ (item : catalog.RouteItem). item.ends) old.routes route ∙ there
    window_is (part_of_route route from to) there =
        let first = and_parts (has old.routes route) (position_there (with_views one) on route from && position_there (with_views one) on route to) there in
        let both = and_parts (position_there (with_views one) on route from) (position_there (with_views one) on route to) first.1 in
        (has_values (λ (item : catalog.RouteItem). item.ends) old.routes route ∙ first.0, position_is route from both.0, position_is route to both.1)

    windows_are : (windows : List WindowTree) → list_all (window_there (with_views one) on) windows ≡ true → AllByRecursion (IsWindowOf (state_with other)) windows
    windows_are [] there = tt
    windows_are (window ∷ windows) there =
        let parts = and_parts (window_there (with_views one) on window) (list_all (window_there (with_views one) on) windows) there in
        (window_is window parts.0, windows_are windows parts.1)

    position_has : (route : Name) (position : PositionExpression) → HasItsReferent (state_with other) route position → position_there (with_views one) on route position ≡ true
    unfolding referents_from
    position_has route (absolute measure) is = refl
    position_has route (beyond name measure) is = is
    position_has route (before name measure) is = is
    position_has route (interpolative part) is = refl

    window_has : (window : WindowTree) → IsWindowOf (state_with other) window → window_there (with_views one) on window ≡ true
    window_has (whole_route route) is = sym (has_values (λ (item : catalog.RouteItem). item.ends) old.routes route) ∙ is
    window_has (part_of_route route from to) is =
        and_from (has old.routes route) (position_there (with_views one) on route from && position_there (with_views one) on route to)
        (sym (has_values (λ (item : catalog.RouteItem). item.ends) old.routes route) ∙ is.0)
        (and_from (position_there (with_views one) on route from) (position_there (with_views one) on route to) (position_has route from is.1) (position_has route to is.2))

    windows_have : (windows : List WindowTree) → AllByRecursion (IsWindowOf (state_with other)) windows → list_all (window_there (with_views one) on) windows ≡ true
    windows_have [] all = refl
    windows_have (window ∷ windows) all =
        and_from (window_there (with_views one) on window) (list_all (window_there (with_views one) on) windows) (window_has window all.0) (windows_have windows all.1)

  -- ---- the two lists of entries

  module _ (one_query : (name other : Name) (a b : QueryTree) (text : List ℕ) → HasLine name a text → HasLine other b text → a ≡ b) where
    pairs : (a b : Name) (x y : QueryTree) → a ≡ b → x ≡ y → ◌≡◌ {A = Name × QueryTree} (a, x) (b, y)
    pairs a b x y e f = λ i. (e i, f i)

    same_query : (view : ViewItem) (w n : Entry) → IsWidenedOf view w → IsViewOf view n → query_tree w.1.query ≡ widened (query_tree n.1.query)
    same_query view w n wide is = wide.is ∙ ap widened (one_query view.name view.name wide.query (query_tree n.1.query) view.text wide.defined is.defined)

    same_trees : (views : List ViewItem) (ws ns : List Entry) → AllZip IsWidenedOf views ws → AllZip IsViewOf views ns → map tree_entry ws ≡ map wide_entry (map tree_entry ns)
    same_trees [] [] [] wide are = refl
    same_trees [] [] (n ∷ ns) wide are = absurd are
    same_trees [] (w ∷ ws) ns wide are = absurd wide
    same_trees (view ∷ views) [] ns wide are = absurd wide
    same_trees (view ∷ views) (w ∷ ws) [] wide are = absurd are
    same_trees (view ∷ views) (w ∷ ws) (n ∷ ns) wide are =
        λ i. pairs w.0 n.0 (query_tree w.1.query) (widened (query_tree n.1.query)) (wide.0.named ∙ sym are.0.named) (same_query view w n wide.0 are.0) i ∷ same_trees views ws ns wide.1 are.1 i

    module _ (views : List ViewItem) (ws ns : Names catalog.ViewItem) (wide : AllZip IsWidenedOf views (names.entries ws)) (are : AllZip IsViewOf views (names.entries ns)) where
      wide_maps : views_of (with_views ws) ≡ map_values widened (views_of (with_views ns))
      unfolding map_values
      wide_maps =
          ap (λ (l : List (Name × QueryTree)). names.from_entries l) (same_trees views (names.entries ws) (names.entries ns) wide are)
          ∙ ap (λ (l : List (Name × QueryTree)). names.from_entries (map wide_entry l)) (sym (entries-map_values (λ (item : catalog.ViewItem). query_tree item.query) ns))

      pub are_widened : AreWidened (state_with ns) (state_with ws)
      are_widened = record {
        views = λ name. ap (λ m. names.get m name) wide_maps ∙ get-map_values widened (views_of (with_views ns)) name;
        as_many = ap (λ m. names.len m) wide_maps ∙ len-map_values widened (views_of (with_views ns));
        others = states_but ws ns;
      }

    -- ---- views that pass

    module _ (tables : List TableItem) (is_old : old.tables ≡ tables_named tables) (order : AreInOrder (λ (table : TableItem). table.name) tables) (definitions ws ns : Names catalog.ViewItem) where
      no_table_there : (name : Name) → AllByRecursion (λ (table : TableItem). table.name ≢ name) tables → has (state_with ns).tables name ≡ false
      unfolding tables_from
      no_table_there name all = has_values _ old.tables name ∙ ap (λ (m : Names catalog.TableItem). has m name) is_old ∙ no_table tables name order all

      passing : (views : List ViewItem) (wide made : List Entry) → AllByRecursion (meaning.IsView tables) views → AllZip IsWidenedOf views wide → AllZip (IsWrittenOf (with_views definitions) on) views made
          → AllByRecursion (λ (entry : Entry). PassesIn (state_with ws) (query_tree entry.1.query)) wide
          → AllByRecursion (λ (e : Name × QueryTree). PassesWidened (state_with ns) (state_with ws) e.0 e.1) (map tree_entry made)
      passing [] [] [] meant are written pass = tt
      passing [] [] (n ∷ made) meant are written pass = absurd written
      passing [] (w ∷ wide) made meant are written pass = absurd are
      passing (view ∷ views) [] made meant are written pass = absurd are
      passing (view ∷ views) (w ∷ wide) [] meant are written pass = absurd written
      passing (view ∷ views) (w ∷ wide) (n ∷ made) meant are written pass =
          let query = query_tree n.1.query in
          let same = same_query view w n are.0 written.0.is in
          let passes = subst (PassesIn (state_with ws)) same pass.0 in (
            record {
              named = subst IsName (sym written.0.is.named) meant.0.named;
              sound = written.0.sound;
              no_table = no_table_there n.0 (subst (λ name. AllByRecursion (λ (table : TableItem). table.name ≢ name) tables) (sym written.0.is.named) meant.0.no_table);
              windows = windows_are definitions ns (windows_in query) written.0.windows;
              made = passes.0;
              passes = passes.1;
            },
            passing views wide made meant.1 are.1 written.1 pass.1,
          )

    -- ---- and the other way round

    module _ (ws ns : Names catalog.ViewItem) where
      all_pass : (views : List ViewItem) (wide made : List Entry) → AllZip IsWidenedOf views wide → AllZip IsViewOf views made
          → AllByRecursion (λ (e : Name × QueryTree). PassesWidened (state_with ns) (state_with ws) e.0 e.1) (map tree_entry made)
          → AllByRecursion (λ (entry : Entry). PassesIn (state_with ws) (query_tree entry.1.query)) wide
      all_pass [] [] [] wide are pass = tt
      all_pass [] [] (n ∷ made) wide are pass = absurd are
      all_pass [] (w ∷ wides) made wide are pass = absurd wide
      all_pass (view ∷ views) [] made wide are pass = absurd wide
      all_pass (view ∷ views) (w ∷ wides) [] wide are pass = absurd are
      all_pass (view ∷ views) (w ∷ wides) (n ∷ made) wide are pass =
          (subst (PassesIn (state_with ws)) (sym (same_query view w n wide.0 are.0)) (pass.0.made, pass.0.passes), all_pass views wides made wide.1 are.1 pass.1)

      all_there : (definitions : Names catalog.ViewItem) (made : List Entry) → AllByRecursion (λ (e : Name × QueryTree). PassesWidened (state_with ns) (state_with ws) e.0 e.1) (map tree_entry made)
          → AllByRecursion (AreWindowsThere (with_views definitions) on) (map (λ (entry : Entry). query_tree entry.1.query) made)
      all_there definitions [] pass = tt
      all_there definitions (n ∷ made) pass = (windows_have definitions ns (windows_in (query_tree n.1.query)) pass.0.windows, all_there definitions made pass.1)

    -- ---- all of it

    abbrev Meant : Type 0
    Meant = (state wide : State) → AreWidened state wide → Each state.views (PassesWidened state wide) → AreViewsMeant state

    abbrev Pass : Type 0
    Pass = (state wide : State) → AreWidened state wide → AreViewsMeant state → Each state.views (PassesWidened state wide)

    entries_are : (views : Names catalog.ViewItem) → names.entries (views_of (with_views views)) ≡ map tree_entry (names.entries views)
    entries_are views = entries-map_values (λ (item : catalog.ViewItem). query_tree item.query) views

    pub entered_meant : Meant → (tables : List TableItem) → old.tables ≡ tables_named tables → AreInOrder (λ (table : TableItem). table.name) tables
        → (views : List ViewItem) → AllByRecursion (meaning.IsView tables) views → (wide new : Definitions) → AreEntered IsWidenedOf views old wide → AreEntered (IsWrittenOf wide on) views wide new
        → AllPassIn (state_from wide on spans_on rest) wide → AreViewsMeant (state_from new on spans_on rest)
    entered_meant law tables is_old order views meant wide new first last pass =
        let written = subst (λ (d : Definitions). AllZip (IsWrittenOf d on) views (names.entries new.views)) first.others last.views in
        let passes = subst (λ (d : Definitions). AllByRecursion (λ (entry : Entry). PassesIn (state_from d on spans_on rest) (query_tree entry.1.query)) (names.entries wide.views)) first.others pass in
        let all = passing tables is_old order wide.views wide.views new.views views (names.entries wide.views) (names.entries new.views) meant first.views written passes in
        let each = each_from (PassesWidened (state_with new.views) (state_with wide.views)) (views_of (with_views new.views))
        (subst (AllByRecursion (λ (e : Name × QueryTree). PassesWidened (state_with new.views) (state_with wide.views) e.0 e.1)) (sym (entries_are new.views)) all) in
        let widened = are_widened views wide.views new.views first.views (written_views (with_views wide.views) on views (names.entries new.views) written) in
        subst (λ (d : Definitions). AreViewsMeant (state_from d on spans_on rest)) (sym (last.others ∙ ap (λ (d : Definitions). record d { views = new.views }) first.others))
        (law (state_with new.views) (state_with wide.views) widened each)

    -- definitions that are meant, beside the views that were entered widened
    module _ (law : Pass) (views : List ViewItem) (wide definitions : Definitions) (first : AreEntered IsWidenedOf views old wide) (have : HasViews views old definitions)
        (meant : AreViewsMeant (state_from definitions on spans_on rest)) where
      all_widened : AllByRecursion (λ (e : Name × QueryTree). PassesWidened (state_with definitions.views) (state_with wide.views) e.0 e.1) (map tree_entry (names.entries definitions.views))
      all_widened =
          subst (AllByRecursion (λ (e : Name × QueryTree). PassesWidened (state_with definitions.views) (state_with wide.views) e.0 e.1)) (entries_are definitions.views)
          (each_to (PassesWidened (state_with definitions.views) (state_with wide.views)) (views_of (with_views definitions.views))
          (law (state_with definitions.views) (state_with wide.views) (are_widened views wide.views definitions.views first.views have.views)
          (subst (λ (d : Definitions). AreViewsMeant (state_from d on spans_on rest)) have.others meant)))

      pub wide_pass : AllPassIn (state_from wide on spans_on rest) wide
      wide_pass =
          subst (λ (d : Definitions). AllByRecursion (λ (entry : Entry). PassesIn (state_from d on spans_on rest) (query_tree entry.1.query)) (names.entries wide.views)) (sym first.others)
          (all_pass wide.views definitions.views views (names.entries wide.views) (names.entries definitions.views) first.views have.views all_widened)

      pub windows_there_all : AllByRecursion (AreWindowsThere wide on) (map (λ (entry : Entry). query_tree entry.1.query) (names.entries definitions.views))
      windows_there_all =
          subst (λ (d : Definitions). AllByRecursion (AreWindowsThere d on) (map (λ (entry : Entry). query_tree entry.1.query) (names.entries definitions.views))) (sym first.others)
          (all_there wide.views definitions.views wide.views (names.entries definitions.views) all_widened)

-- the queries of views that are there
pub queries_of : (views : List ViewItem) (made : List Entry) → AllZip IsViewOf views made → AllZip IsQueryOf views (map (λ (entry : Entry). query_tree entry.1.query) made)
queries_of [] [] all = tt
queries_of [] (n ∷ made) all = absurd all
queries_of (view ∷ views) [] all = absurd all
queries_of (view ∷ views) (n ∷ made) all = (all.0.defined, queries_of views made all.1)

-- the names of views that are entered
pub names_of_widened : (views : List ViewItem) (made : List Entry) → AllZip IsWidenedOf views made → AllZip (λ view entry. entry.0 ≡ view.name) views made
names_of_widened [] [] all = tt
names_of_widened [] (n ∷ made) all = absurd all
names_of_widened (view ∷ views) [] all = absurd all
names_of_widened (view ∷ views) (n ∷ made) all = (all.0.named, names_of_widened views made all.1)

pub listed_of : (tables : List TableItem) (views : List ViewItem) → meaning.AreViews tables views → AreListedViews views
listed_of tables views are = record { in_order = are.in_order; named = all_of (meaning.IsView tables) (λ (view : ViewItem). IsName view.name) (λ view is. is.named) views are.each }
