-- The commands of a dump rebuild the state.
use Rattle.std.proofs.Common.{◌≡◌, ◌∙◌, ℕ, ◌+◌, ◌≤◌, List, [], ◌∷◌, ◌++◌, length, map, Some, refl, sym, ap, subst, arith, length-append}
use Rattle.std.specs.Option.{option_map}
use Rattle.std.specs.FinMap as names
use Rattle.std.specs.FinMap.{get-empty, len-empty}
use Rattle.rs_facts.specs.Fact.{Name, Names, name_cmp}
use Rattle.rs_facts.specs.Query.{Piece, RouteEnds, Table}
use Rattle.rs_planning.specs.Basis.{IndexedColumn}
use Rattle.rs_syntax.specs.Tree.{CommandTree}
use Rattle.rs_machine.specs.State.{State, fresh, no_cursors, no_referents}
use Rattle.rs_machine.specs.Lawful.{AreColumnsOfTable, IsAlignment, IsLawful, IsReferent, IsRoute}
use Rattle.rs_machine.specs.declared.limits.TheConstants.{ALIGNMENTS, CHANGES, INDEXES, REFERENTS, ROUTES, TABLES, VIEWS}
use Rattle.rs_dump_laws.specs.Accepted.{Accepted}
use Rattle.rs_dump_laws.specs.Dump.{IsDumpOf, ViewsPass, alignment_command, commands_of, index_command, rebuilt, referent_command, route_command, row_command, table_command, view_command}
use Rattle.rs_dump_laws.specs.Parts.{ArePartsOf, IsReferentOf, IsUnder, Parts, PlacedReferent}
use Rattle.rs_dump_laws.proofs.Alignments.{alignments_accepted}
use Rattle.rs_dump_laws.proofs.Indexes.{IsOfColumn, indexes_accepted}
use Rattle.rs_dump_laws.proofs.Lists.{all_weaker}
use Rattle.rs_dump_laws.proofs.MoreViews.{IsBegun, no_views}
use Rattle.rs_dump_laws.proofs.NamedThings.{all_named, all_new, all_valued, itself, len_all, put_all_named}
use Rattle.rs_dump_laws.proofs.Referents.{Referents, all_new_referents, all_referents, referents_accepted}
use Rattle.rs_dump_laws.proofs.Routes.{routes_accepted}
use Rattle.rs_dump_laws.proofs.RowFacts.{all_rows}
use Rattle.rs_dump_laws.proofs.Rows.{IsStill, rows_accepted}
use Rattle.rs_dump_laws.proofs.Tables.{emptied, tables_accepted}
use Rattle.rs_dump_laws.proofs.Views.{views_accepted, with_views}
use Rattle.rs_dump_laws.proofs.Walks.{accepted_append}

-- a state without cursors, of its parts
abbrev stage : Names RouteEnds → Referents → Names Table → Names (List Piece) → ℕ → State
stage routes referents tables alignments changes = record {
  routes = routes;
  referents = referents;
  tables = tables;
  views = names.empty;
  alignments = alignments;
  indexes = names.empty;
  changes = changes;
  cursors = no_cursors;
}

at_start : fresh ≡ stage names.empty no_referents names.empty names.empty 0
unfolding fresh
at_start = refl

pub none_under : {X P : Type 0} (name : Name) (thing : X) → names.get (names.empty {X = X} {R = name_cmp}) name ≡ Some thing → P
none_under name thing there = let e = sym (get-empty name_cmp name) ∙ there in cc

module _ (state : State) (lawful : IsLawful state) (parts : Parts) (are : ArePartsOf state parts) where
  routes_step : (n : ℕ) → n + length parts.routes ≤ CHANGES
      → Accepted (stage names.empty no_referents names.empty names.empty n) (map route_command parts.routes) (stage state.routes no_referents names.empty names.empty (n + length parts.routes))
  routes_step n room =
      let whole = all_named state.routes parts.routes are.routes in
      let start = stage names.empty no_referents names.empty names.empty n in
      subst (λ routes. Accepted start (map route_command parts.routes) (stage routes no_referents names.empty names.empty (n + length parts.routes))) whole
      (routes_accepted start parts.routes (all_new itself state.routes parts.routes are.routes)
      (all_weaker (IsUnder state.routes) (λ route. IsRoute route.0 route.1) (λ route under. lawful.routes route.0 route.1 under) parts.routes are.routes.each)
      (subst (λ routes. names.len routes ≤ ROUTES) (sym whole) lawful.limits.routes) room)

  referents_step : (n : ℕ) → n + length parts.referents ≤ CHANGES
      → Accepted (stage state.routes no_referents names.empty names.empty n) (map referent_command parts.referents) (stage state.routes state.referents names.empty names.empty (n + length parts.referents))
  referents_step n room =
      let whole = all_referents state parts.referents are.referents in
      let start = stage state.routes no_referents names.empty names.empty n in
      subst (λ referents. Accepted start (map referent_command parts.referents) (stage state.routes referents names.empty names.empty (n + length parts.referents))) whole
      (referents_accepted start parts.referents (all_new_referents state parts.referents are.referents)
      (all_weaker (IsReferentOf state) (λ (one : PlacedReferent). IsReferent state.routes one.route one.name one.measure) (λ one under. lawful.referents one.route one.name one.measure under) parts.referents are.referents.each)
      (λ route. subst (λ (referents : Referents). names.len (referents route) ≤ REFERENTS) (sym whole) (lawful.limits.referents route)) room)

  -- the tables without their rows
  abbrev empties : Names Table
  empties = put_all_named emptied names.empty parts.tables

  empties_are : (name : Name) → names.get empties name ≡ option_map emptied (names.get state.tables name)
  empties_are name = all_valued emptied state.tables parts.tables are.tables name

  few_empties : names.len empties ≤ TABLES
  few_empties =
      let long = len_all emptied names.empty parts.tables (all_new emptied state.tables parts.tables are.tables) in
      let same = len_all itself names.empty parts.tables (all_new itself state.tables parts.tables are.tables) in
      let whole = ap names.len (all_named state.tables parts.tables are.tables) in
      let zero_one = len-empty name_cmp Table in
      let most = lawful.limits.tables in
      omega arith

  tables_step : (n : ℕ) → n + length parts.tables ≤ CHANGES
      → Accepted (stage state.routes state.referents names.empty names.empty n) (map table_command parts.tables) (stage state.routes state.referents empties names.empty (n + length parts.tables))
  tables_step n room =
      tables_accepted (stage state.routes state.referents names.empty names.empty n) parts.tables refl (all_new emptied state.tables parts.tables are.tables)
      (all_weaker (IsUnder state.tables) (λ table. AreColumnsOfTable table.1.columns) (λ table under. (lawful.tables table.0 table.1 under).columns) parts.tables are.tables.each)
      few_empties room

  still_there : (name : Name) (table : Table) → names.get state.tables name ≡ Some table → IsStill empties name table
  still_there name table there = record { other = emptied table; there = empties_are name ∙ ap (option_map emptied) there; kind = refl; columns = refl }

  rows_step : (n : ℕ) → n + length parts.rows ≤ CHANGES
      → Accepted (stage state.routes state.referents empties names.empty n) (map (row_command state) parts.rows) (stage state.routes state.referents state.tables names.empty (n + length parts.rows))
  rows_step n room =
      let start = stage state.routes state.referents empties names.empty n in
      subst (λ tables. Accepted start (map (row_command state) parts.rows) (stage state.routes state.referents tables names.empty (n + length parts.rows)))
      (all_rows state lawful parts.rows are.rows empties empties_are)
      (rows_accepted state lawful start parts.rows refl still_there are.rows.each room)

  alignments_step : (n : ℕ) → n + length parts.alignments ≤ CHANGES
      → Accepted (stage state.routes state.referents state.tables names.empty n) (map alignment_command parts.alignments) (stage state.routes state.referents state.tables state.alignments (n + length parts.alignments))
  alignments_step n room =
      let whole = all_named state.alignments parts.alignments are.alignments in
      let start = stage state.routes state.referents state.tables names.empty n in
      subst (λ alignments. Accepted start (map alignment_command parts.alignments) (stage state.routes state.referents state.tables alignments (n + length parts.alignments))) whole
      (alignments_accepted start parts.alignments (all_new itself state.alignments parts.alignments are.alignments)
      (all_weaker (IsUnder state.alignments) (λ alignment. IsAlignment state.routes alignment.0 alignment.1) (λ alignment under. lawful.alignments alignment.0 alignment.1 under) parts.alignments are.alignments.each)
      (subst (λ alignments. names.len alignments ≤ ALIGNMENTS) (sym whole) lawful.limits.alignments) room)

  begun : IsBegun names.empty parts.views
  begun = record {
    order = no_views;
    new = all_new itself state.views parts.views are.views;
    free = λ name query there. none_under name query there;
    before = are.views_in_order;
  }

  views_step : (texts : Name → List ℕ) → ViewsPass state → (n : ℕ) → n + length parts.views ≤ CHANGES
      → Accepted (with_views state names.empty n) (map (view_command texts) parts.views) (with_views state state.views (n + length parts.views))
  views_step texts pass n room =
      let whole = all_named state.views parts.views are.views in
      subst (λ views. Accepted (with_views state names.empty n) (map (view_command texts) parts.views) (with_views state views (n + length parts.views))) whole
      (views_accepted state texts pass (λ name query there. (lawful.views.each name query there).is) names.empty n parts.views begun whole are.views.each
      (subst (λ views. names.len views ≤ VIEWS) (sym whole) lawful.limits.views) room)

  of_column : (name : Name) (index : IndexedColumn) → names.get state.indexes name ≡ Some index → IsOfColumn state.tables index
  of_column name index under =
      let is = lawful.indexes name index under in
      record { table = is.table; there = is.there; column = is.column; distinct = (lawful.tables index.table is.table is.there).columns.distinct }

  indexes_step : (n : ℕ) → n + length parts.indexes ≤ CHANGES → Accepted (with_views state state.views n) (map (index_command state) parts.indexes) (rebuilt state (n + length parts.indexes))
  indexes_step n room =
      let whole = all_named state.indexes parts.indexes are.indexes in
      let start = with_views state state.views n in
      subst (λ indexes. Accepted start (map (index_command state) parts.indexes) (record start { indexes = indexes; changes = n + length parts.indexes })) whole
      (indexes_accepted state start parts.indexes refl (all_new itself state.indexes parts.indexes are.indexes)
      (all_weaker (IsUnder state.indexes) (λ (index : Name × IndexedColumn). IsOfColumn state.tables index.1) (λ index under. of_column index.0 index.1 under) parts.indexes are.indexes.each)
      (subst (λ indexes. names.len indexes ≤ INDEXES) (sym whole) lawful.limits.indexes) room)

  -- ---- all

  abbrev after_routes : ℕ
  after_routes = 0 + length parts.routes

  abbrev after_referents : ℕ
  after_referents = after_routes + length parts.referents

  abbrev after_tables : ℕ
  after_tables = after_referents + length parts.tables

  abbrev after_rows : ℕ
  after_rows = after_tables + length parts.rows

  abbrev after_alignments : ℕ
  after_alignments = after_rows + length parts.alignments

  abbrev after_views : ℕ
  after_views = after_alignments + length parts.views

  abbrev after_indexes : ℕ
  after_indexes = after_views + length parts.indexes

  all_steps : (texts : Name → List ℕ) → ViewsPass state → after_indexes ≤ CHANGES → Accepted (stage names.empty no_referents names.empty names.empty 0) (commands_of texts state parts) (rebuilt state after_indexes)
  all_steps texts pass room =
      accepted_append _ (stage state.routes no_referents names.empty names.empty after_routes) _ _ _ (routes_step 0 (omega arith))
      (accepted_append _ (stage state.routes state.referents names.empty names.empty after_referents) _ _ _ (referents_step after_routes (omega arith))
      (accepted_append _ (stage state.routes state.referents empties names.empty after_tables) _ _ _ (tables_step after_referents (omega arith))
      (accepted_append _ (stage state.routes state.referents state.tables names.empty after_rows) _ _ _ (rows_step after_tables (omega arith))
      (accepted_append _ (with_views state names.empty after_alignments) _ _ _ (alignments_step after_rows (omega arith))
      (accepted_append _ (with_views state state.views after_views) _ _ _ (views_step texts pass after_alignments (omega arith)) (indexes_step after_views (omega arith)))))))

  long_map : {X : Type 0} (command : X → CommandTree) (xs : List X) → length (map command xs) ≡ length xs
  long_map command [] = refl
  long_map command (x ∷ xs) = let rest = long_map command xs in omega arith

  long_both : {X : Type 0} (command : X → CommandTree) (xs : List X) (others : List CommandTree) → length (map command xs ++ others) ≡ length xs + length others
  long_both command xs others = length-append (map command xs) others ∙ ap (λ n. n + length others) (long_map command xs)

  as_many : (texts : Name → List ℕ) → length (commands_of texts state parts) ≡ after_indexes
  as_many texts =
      let g = map (index_command state) parts.indexes in
      let f = map (view_command texts) parts.views ++ g in
      let e = map alignment_command parts.alignments ++ f in
      let d = map (row_command state) parts.rows ++ e in
      let c = map table_command parts.tables ++ d in
      let b = map referent_command parts.referents ++ c in
      let one = long_both route_command parts.routes b in
      let two = long_both referent_command parts.referents c in
      let three = long_both table_command parts.tables d in
      let four = long_both (row_command state) parts.rows e in
      let five = long_both alignment_command parts.alignments f in
      let six = long_both (view_command texts) parts.views g in
      let seven = long_map (index_command state) parts.indexes in
      omega arith

pub rebuilds : (texts : Name → List ℕ) (state : State) (commands : List CommandTree) → IsLawful state → ViewsPass state → length commands ≤ CHANGES → IsDumpOf texts state commands
    → Accepted fresh commands (rebuilt state (length commands))
rebuilds texts state commands lawful pass room dump =
    let many : length commands ≡ after_indexes state lawful dump.parts dump.are_parts = ap length dump.are ∙ as_many state lawful dump.parts dump.are_parts texts in
    let all = all_steps state lawful dump.parts dump.are_parts texts pass (subst (λ n. n ≤ CHANGES) many room) in
    subst (λ start. Accepted start commands (rebuilt state (length commands))) (sym at_start)
    (subst (λ list. Accepted (stage names.empty no_referents names.empty names.empty 0) list (rebuilt state (length commands))) (sym dump.are)
    (subst (λ n. Accepted (stage names.empty no_referents names.empty names.empty 0) (commands_of texts state dump.parts) (rebuilt state n)) (sym many) all))
