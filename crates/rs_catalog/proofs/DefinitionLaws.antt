-- What is so of every catalogue stays so when a route, a table, a view or an alignment is added or taken out.
use Rattle.std.proofs.Common.{◌≡◌, ℕ, ◌<◌, ◌≤◌, ⊎_elim, true, false, cond, not, List, Option, Some, None, Result, Ok, Err, is_some, length, refl, sym, ap, subst, ◌∙◌}
use Rattle.std.specs.FinMap as names
use Rattle.std.specs.FinMap.{get-empty, get-insert, get-remove, get-retain_keys, get_tied}
use Rattle.std.specs.Cmp.{eq_by_cmp_equiv}
use Rattle.std.specs.Option.{option_map}
use Rattle.std.specs.Result.{OnOk, OnErr}
use Rattle.rs_measure.specs.declared.measure.TheConstants.{GREATEST_MEASURE}
use Rattle.rs_value.specs.declared.column.TheConstants.{COLUMNS}
use Rattle.rs_facts.specs.Fact.{Name, Names, name_cmp}
use Rattle.rs_facts.specs.Insert.{same_name}
use Rattle.rs_facts.specs.Query.{Piece}
use Rattle.rs_facts.specs.WellFormed.{ArePiecesOn}
use Rattle.rs_machine.specs.State.{has}
use Rattle.rs_machine.specs.declared.limits.TheConstants.{ROUTES, TABLES, INDEXES}
use Rattle.rs_catalog.specs.Definitions.{RouteItem, TableItem, IndexItem, ViewItem, Definitions, no_definitions, IsFree, AreNumbered, IsColumnOf, AreDefinitions, routes_of}
use Rattle.rs_catalog.specs.Changes.{with_route, with_table, with_index, with_alignment, without_route, is_of_another, indexes_of_others, without_table, without_index, without_alignment}
use Rattle.rs_catalog.specs.Uses.{some_piece_on}
use Rattle.rs_machine.proofs.PieceLaws.{pieces-route_more, alignments-route_gone}
use Rattle.rs_catalog.proofs.NameOrder.{name_cmp-total}
use Rattle.std.proofs.Math.Path.{fun_ext}
use Rattle.rs_catalog.proofs.Names.{kept, get-map_values, map_values-insert, map_values-remove}
use Rattle.rs_catalog.proofs.MapLaws.{none_some, some_same, same_name-true, cases_insert, before_remove}

-- ---- numbers

module _ {X : Type 0} (number_of : X → ℕ) where
  numbered-empty : AreNumbered number_of names.empty
  numbered-empty a b x y at other same = none_some x (sym (get-empty name_cmp a) ∙ at)

  -- a value whose number is free
  pub numbered-insert : (items : Names X) (key : Name) (value : X) → AreNumbered number_of items → IsFree number_of items (number_of value) → AreNumbered number_of (names.insert items key value)
  numbered-insert items key value numbered free a b x y at other same =
      ⊎_elim
      (λ (first : (a ≡ key) × (value ≡ x)). ⊎_elim
      (λ (second : (b ≡ key) × (value ≡ y)). first.0 ∙ sym second.0)
      (λ was. absurd (free b y was (sym same ∙ ap number_of (sym first.1))))
      (cases_insert items key value b y other))
      (λ was. ⊎_elim
      (λ (second : (b ≡ key) × (value ≡ y)). absurd (free a x was (same ∙ ap number_of (sym second.1))))
      (λ too. numbered a b x y was too same)
      (cases_insert items key value b y other))
      (cases_insert items key value a x at)

  pub numbered-remove : (items : Names X) (key : Name) → AreNumbered number_of items → AreNumbered number_of (names.remove items key)
  numbered-remove items key numbered a b x y at other same = numbered a b x y (before_remove items key a x at) (before_remove items key b y other) same

false_true : {P : Type 0} → false ≡ true → P
false_true e = cc

-- ---- what is so of each

abbrev IsRoute : RouteItem → Type 0
IsRoute item = (item.number < ROUTES) × (item.ends.start < item.ends.finish) × (item.ends.finish ≤ GREATEST_MEASURE)

abbrev IsTable : TableItem → Type 0
IsTable item = (item.number < TABLES) × (length item.columns ≤ COLUMNS)

module _ {X : Type 0} (IsSo : X → Type 0) where
  each-insert : (items : Names X) (key : Name) (value : X) → ((name : Name) (item : X) → names.get items name ≡ Some item → IsSo item) → IsSo value
      → (name : Name) (item : X) → names.get (names.insert items key value) name ≡ Some item → IsSo item
  each-insert items key value all one name item there =
      ⊎_elim (λ (same : (name ≡ key) × (value ≡ item)). subst IsSo same.1 one) (λ was. all name item was) (cases_insert items key value name item there)

  each-remove : (items : Names X) (key : Name) → ((name : Name) (item : X) → names.get items name ≡ Some item → IsSo item)
      → (name : Name) (item : X) → names.get (names.remove items key) name ≡ Some item → IsSo item
  each-remove items key all name item there = all name item (before_remove items key name item there)

-- what is so of a map before and after holds whether there was memory or not
pub tried : {E X : Type 0} (IsSo : X → Type 0) (result : Result (Unit {0}) E) (was next now : X) → IsSo was → IsSo next → OnOk result (now ≡ next) → OnErr result (now ≡ was) → IsSo now
tried IsSo (Ok u) was next now before after ok err = subst IsSo (sym ok) after
tried IsSo (Err e) was next now before after ok err = subst IsSo (sym err) before

-- ---- routes by their ends

no_ends : (definitions : Definitions) (name : Name) → has definitions.routes name ≡ false → has (routes_of definitions) name ≡ false
no_ends definitions name new = ap is_some (get-map_values (λ (item : RouteItem). item.ends) definitions.routes name) ∙ by (names.get definitions.routes name) ∙ new
  where
    by : (o : Option RouteItem) → is_some (option_map (λ (item : RouteItem). item.ends) o) ≡ is_some o
    by None = refl
    by (Some item) = refl

-- ---- columns that are indexed

-- there is one more table
column-more : (tables : Names TableItem) (name : Name) (item : TableItem) → has tables name ≡ false → (index : IndexItem) → IsColumnOf tables index.table index.table_number index.column
    → IsColumnOf (names.insert tables name item) index.table index.table_number index.column
column-more tables name item new index is = record {
  table = is.table;
  there = get-insert name_cmp-total tables name item index.table
      ∙ elim (same_name index.table name) as (λ same. same_name index.table name ≡ same → cond same (Some item) (names.get tables index.table) ≡ Some is.table) [
        | true ↦ λ same. false_true (sym new ∙ ap is_some (ap (names.get tables) (sym (same_name-true index.table name same)) ∙ is.there))
        | false ↦ λ apart. is.there
      ] refl;
  numbered = is.numbered;
  below = is.below;
}

-- another table went
column-less : (tables : Names TableItem) (name : Name) (index : IndexItem) → same_name name index.table ≡ false → IsColumnOf tables index.table index.table_number index.column
    → IsColumnOf (names.remove tables name) index.table index.table_number index.column
column-less tables name index apart is = record {
  table = is.table;
  there = get-remove name_cmp-total tables name index.table ∙ ap (λ b. cond b None (names.get tables index.table)) ((eq_by_cmp_equiv name_cmp-total).symm index.table name ∙ apart) ∙ is.there;
  numbered = is.numbered;
  below = is.below;
}

pub get-others : (table : Name) (items : Names IndexItem) (name : Name) → names.get (indexes_of_others table items) name ≡ cond (is_of_another table (names.get items name)) (names.get items name) None
unfolding indexes_of_others
get-others table items name = get-retain_keys items (λ n. is_of_another table (names.get items n)) name (λ x tied. ap (is_of_another table) (get_tied name_cmp-total items name x tied))

-- what is kept by the values is what is of another table
pub same_kept : (table : Name) (items : Names IndexItem) → names.retain_keys items (λ name. kept (λ (item : IndexItem). not (same_name table item.table)) (names.get items name)) ≡ indexes_of_others table items
unfolding indexes_of_others
same_kept table items = ap (names.retain_keys items) (fun_ext (λ name. alike (names.get items name)))
  where
    alike : (found : Option IndexItem) → kept (λ (item : IndexItem). not (same_name table item.table)) found ≡ is_of_another table found
    alike None = refl
    alike (Some item) = refl

of_others : (table : Name) (found : Option IndexItem) (item : IndexItem) → cond (is_of_another table found) found None ≡ Some item → (same_name table item.table ≡ false) × (found ≡ Some item)
of_others table None item e = none_some item e
of_others table (Some other) item e =
    elim (same_name table other.table) as (λ same. same_name table other.table ≡ same → cond (not same) (Some other) None ≡ Some item → (same_name table item.table ≡ false) × (Some other ≡ Some item)) [
      | true ↦ λ same kept. none_some item kept
      | false ↦ λ apart kept. (subst (λ (i : IndexItem). same_name table i.table ≡ false) (some_same other item kept) apart, kept)
    ] refl e

-- what is left of the indexes was there, and is of another table
before_others : (table : Name) (items : Names IndexItem) (name : Name) (item : IndexItem) → names.get (indexes_of_others table items) name ≡ Some item → (same_name table item.table ≡ false) × (names.get items name ≡ Some item)
before_others table items name item there = of_others table (names.get items name) item (sym (get-others table items name) ∙ there)

-- ---- definitions

pub are_definitions-empty : AreDefinitions no_definitions
are_definitions-empty = record {
  route_numbers = numbered-empty (λ (item : RouteItem). item.number);
  table_numbers = numbered-empty (λ (item : TableItem). item.number);
  index_numbers = numbered-empty (λ (item : IndexItem). item.number);
  routes = λ name item there. none_some item (sym (get-empty name_cmp name) ∙ there);
  tables = λ name item there. none_some item (sym (get-empty name_cmp name) ∙ there);
  indexes = λ name item there. none_some item (sym (get-empty name_cmp name) ∙ there);
  alignments = λ name pieces there. none_some pieces (sym (get-empty name_cmp name) ∙ there);
}

pub are_definitions-route : (definitions : Definitions) (name : Name) (item : RouteItem) → AreDefinitions definitions → has definitions.routes name ≡ false → IsFree (λ item. item.number) definitions.routes item.number → IsRoute item
    → AreDefinitions (with_route definitions name item)
are_definitions-route definitions name item are new free one = record {
  route_numbers = numbered-insert (λ (item : RouteItem). item.number) definitions.routes name item are.route_numbers free;
  table_numbers = are.table_numbers;
  index_numbers = are.index_numbers;
  routes = each-insert IsRoute definitions.routes name item are.routes one;
  tables = are.tables;
  indexes = are.indexes;
  alignments = λ alignment pieces there. subst (λ routes. ArePiecesOn routes pieces) (sym (map_values-insert (λ (item : RouteItem). item.ends) definitions.routes name item))
      (pieces-route_more (routes_of definitions) name item.ends (no_ends definitions name new) pieces (are.alignments alignment pieces there));
}

pub are_definitions-table : (definitions : Definitions) (name : Name) (item : TableItem) → AreDefinitions definitions → has definitions.tables name ≡ false → IsFree (λ item. item.number) definitions.tables item.number → IsTable item
    → AreDefinitions (with_table definitions name item)
are_definitions-table definitions name item are new free one = record {
  route_numbers = are.route_numbers;
  table_numbers = numbered-insert (λ (item : TableItem). item.number) definitions.tables name item are.table_numbers free;
  index_numbers = are.index_numbers;
  routes = are.routes;
  tables = each-insert IsTable definitions.tables name item are.tables one;
  indexes = λ index at there. let is = are.indexes index at there in (is.0, column-more definitions.tables name item new at is.1);
  alignments = are.alignments;
}

-- a view has no number
pub are_definitions-views : (definitions : Definitions) (views : Names ViewItem) → AreDefinitions definitions → AreDefinitions (record definitions { views = views })
are_definitions-views definitions views are = record { route_numbers = are.route_numbers; table_numbers = are.table_numbers; index_numbers = are.index_numbers; routes = are.routes; tables = are.tables; indexes = are.indexes; alignments = are.alignments }

pub are_definitions-without_route : (definitions : Definitions) (name : Name) → AreDefinitions definitions → some_piece_on definitions name ≡ false → AreDefinitions (without_route definitions name)
are_definitions-without_route definitions name are unused = record {
  route_numbers = numbered-remove (λ (item : RouteItem). item.number) definitions.routes name are.route_numbers;
  table_numbers = are.table_numbers;
  index_numbers = are.index_numbers;
  routes = each-remove IsRoute definitions.routes name are.routes;
  tables = are.tables;
  indexes = are.indexes;
  alignments = λ alignment pieces there. subst (λ routes. ArePiecesOn routes pieces) (sym (map_values-remove (λ (item : RouteItem). item.ends) definitions.routes name))
      (alignments-route_gone (routes_of definitions) definitions.alignments name unused alignment pieces there (are.alignments alignment pieces there));
}

pub are_definitions-without_table : (definitions : Definitions) (name : Name) → AreDefinitions definitions → AreDefinitions (without_table definitions name)
are_definitions-without_table definitions name are = record {
  route_numbers = are.route_numbers;
  table_numbers = numbered-remove (λ (item : TableItem). item.number) definitions.tables name are.table_numbers;
  index_numbers = λ a b x y at other same. are.index_numbers a b x y (before_others name definitions.indexes a x at).1 (before_others name definitions.indexes b y other).1 same;
  routes = are.routes;
  tables = each-remove IsTable definitions.tables name are.tables;
  indexes = λ index at there.
      let kept = before_others name definitions.indexes index at there in
      let is = are.indexes index at kept.1 in
      (is.0, column-less definitions.tables name at kept.0 is.1);
  alignments = are.alignments;
}

-- an alignment has no number
are_definitions-others : (definitions : Definitions) (alignments : Names (List Piece)) → AreDefinitions definitions
    → ((name : Name) (pieces : List Piece) → names.get alignments name ≡ Some pieces → ArePiecesOn (routes_of definitions) pieces) → AreDefinitions (record definitions { alignments = alignments })
are_definitions-others definitions alignments are lie =
    record { route_numbers = are.route_numbers; table_numbers = are.table_numbers; index_numbers = are.index_numbers; routes = are.routes; tables = are.tables; indexes = are.indexes; alignments = lie }

are_definitions-alignment : (definitions : Definitions) (name : Name) (pieces : List Piece) → AreDefinitions definitions → ArePiecesOn (routes_of definitions) pieces → AreDefinitions (with_alignment definitions name pieces)
are_definitions-alignment definitions name pieces are lie = are_definitions-others definitions (names.insert definitions.alignments name pieces) are
    (each-insert (ArePiecesOn (routes_of definitions)) definitions.alignments name pieces are.alignments lie)

-- whether there was memory for it or not
pub are_definitions-tried : {E : Type 0} (result : Result (Unit {0}) E) (definitions : Definitions) (name : Name) (pieces : List Piece) (alignments : Names (List Piece))
    → AreDefinitions definitions → ArePiecesOn (routes_of definitions) pieces
    → OnOk result (alignments ≡ names.insert definitions.alignments name pieces) → OnErr result (alignments ≡ definitions.alignments) → AreDefinitions (record definitions { alignments = alignments })
are_definitions-tried result definitions name pieces alignments are lie =
    tried (λ (alignments : Names (List Piece)). AreDefinitions (record definitions { alignments = alignments })) result definitions.alignments (names.insert definitions.alignments name pieces) alignments are
    (are_definitions-alignment definitions name pieces are lie)

pub are_definitions-without_alignment : (definitions : Definitions) (name : Name) → AreDefinitions definitions → AreDefinitions (without_alignment definitions name)
are_definitions-without_alignment definitions name are = are_definitions-others definitions (names.remove definitions.alignments name) are
    (each-remove (ArePiecesOn (routes_of definitions)) definitions.alignments name are.alignments)

-- ---- indexes

abbrev IsIndex : Names TableItem → IndexItem → Type 0
IsIndex tables item = (item.number < INDEXES) × IsColumnOf tables item.table item.table_number item.column

pub are_definitions-index : (definitions : Definitions) (name : Name) (item : IndexItem) → AreDefinitions definitions → IsFree (λ item. item.number) definitions.indexes item.number → IsIndex definitions.tables item
    → AreDefinitions (with_index definitions name item)
are_definitions-index definitions name item are free one = record {
  route_numbers = are.route_numbers;
  table_numbers = are.table_numbers;
  index_numbers = numbered-insert (λ (item : IndexItem). item.number) definitions.indexes name item are.index_numbers free;
  routes = are.routes;
  tables = are.tables;
  indexes = each-insert (IsIndex definitions.tables) definitions.indexes name item are.indexes one;
  alignments = are.alignments;
}

pub are_definitions-without_index : (definitions : Definitions) (name : Name) → AreDefinitions definitions → AreDefinitions (without_index definitions name)
are_definitions-without_index definitions name are = record {
  route_numbers = are.route_numbers;
  table_numbers = are.table_numbers;
  index_numbers = numbered-remove (λ (item : IndexItem). item.number) definitions.indexes name are.index_numbers;
  routes = are.routes;
  tables = are.tables;
  indexes = each-remove (IsIndex definitions.tables) definitions.indexes name are.indexes;
  alignments = are.alignments;
}
