-- Definitions that are meant can be stored.
use Rattle.std.proofs.Common.{◌<◌, ◌^◌, ℕ, List, length, get_or, arith}
use Rattle.std.specs.Prelude.{All, Contains}
use Rattle.std.proofs.lemmas.List.{length-map}
use Rattle.std.proofs.lemmas.List.Elements.{All-contains, All-from_recursion, Contains-get_or}
use Rattle.rs_machine.specs.declared.limits.TheConstants.{ROUTES}
use Rattle.rs_machine.specs.Lawful.{IsRoute}
use Rattle.rs_syntax.specs.Sound.{IsName}
use Rattle.rs_catalog_pages.specs.Fitting.{FitsAlignment, FitsCatalogue, FitsColumn, FitsIndex, FitsPiece, FitsRoute, FitsTable, IsShort}
use Rattle.rs_catalog_pages.specs.Items.{AlignmentItem, CatalogueItems, ColumnItem, IndexItem, PieceItem, RouteItem, TableItem}
use Rattle.rs_catalog_pages.proofs.Short.{few_definitions}
use Rattle.rs_catalog_meaning.specs.Fitting.{FitsTypes}
use Rattle.rs_catalog_meaning.specs.Meaning.{AreMeant, AreRoutes, IsAlignment, IsIndex, IsPiece, IsTable, IsView, column_of, ends_of}
use Rattle.rs_catalog_meaning.proofs.RouteLaws.{lying}
use Rattle.rs_catalog_meaning.proofs.TableLaws.{IsColumn, each_column, type_is}

pub meant_short : (catalogue : CatalogueItems) → AreMeant catalogue → IsShort catalogue
meant_short catalogue are =
    few_definitions catalogue (omega (arith, are.routes.few)) (omega (arith, are.tables.few)) (omega (arith, are.indexes.few)) (omega (arith, are.views.few))
    (omega (arith, are.alignments.few))

name_fits : (name : List ℕ) → IsName name → length name < 2 ^ 8
name_fits name is = omega (arith, is.short)

column_fits : (column : ColumnItem) → IsColumn column → FitsColumn column
column_fits column is = record { name = name_fits column.name is.0; type = omega (arith, type_is column.type is.1) }

table_fits : (table : TableItem) → IsTable table → table.number < 2 ^ 32 → FitsTable table
table_fits table is below = record {
  name = name_fits table.name is.named;
  number = below;
  kind = omega (arith, is.kind);
  few = omega (arith, is.columns.few, length-map table.columns column_of);
  columns = λ k d inside. column_fits (get_or table.columns k d) (All-from_recursion IsColumn table.columns (each_column table.columns is.columns.sound) k d inside);
}

module _ (routes : List RouteItem) (are : AreRoutes routes) where
  abbrev MeantRoute : RouteItem → Type 0
  MeantRoute route = IsRoute route.name (ends_of route)

  measured : (route : RouteItem) → Contains routes route → MeantRoute route
  measured route there = All-contains MeantRoute routes route (All-from_recursion MeantRoute routes are.each) there

  numbered : (route : RouteItem) → Contains routes route → route.number < ROUTES
  numbered route there =
      All-contains (λ (r : RouteItem). r.number < ROUTES) routes route (All-from_recursion (λ (r : RouteItem). r.number < ROUTES) routes are.numbers_below) there

  route_fits : (route : RouteItem) → Contains routes route → route.born < 2 ^ 64 → FitsRoute route
  route_fits route there born =
      let is = measured route there in
      record {
        name = name_fits route.name is.named;
        number = omega (arith, numbered route there);
        start = omega (arith, is.start_is_measure);
        finish = omega (arith, is.end_is_measure);
        born = born;
      }

  piece_fits : (piece : PieceItem) → IsPiece routes piece → FitsPiece piece
  piece_fits piece is =
      let lies = lying routes is.first is.second piece are is.first_there is.second_there is.lies in
      let one = measured is.first is.first_there in
      let other = measured is.second is.second_there in
      record {
        from_route = omega (arith, numbered is.first is.first_there, is.first_number);
        from = omega (arith, lies.some, lies.upto_finish, one.end_is_measure);
        to = omega (arith, lies.upto_finish, one.end_is_measure);
        onto_route = omega (arith, numbered is.second is.second_there, is.second_number);
        onto = omega (arith, lies.onto_finish, other.end_is_measure);
      }

  alignment_fits : (alignment : AlignmentItem) → IsAlignment routes alignment → FitsAlignment alignment
  alignment_fits alignment is = record {
    name = name_fits alignment.name is.named;
    few = omega (arith, is.few);
    pieces = λ k d inside. piece_fits (get_or alignment.pieces k d) (All-from_recursion (IsPiece routes) alignment.pieces is.lie k d inside);
  }

index_fits : (tables : List TableItem) (index : IndexItem) → ((table : TableItem) → Contains tables table → FitsTable table) → IsIndex tables index
    → index.number < 2 ^ 32 → FitsIndex index
index_fits tables index fit is below =
    let table = fit is.table is.there in
    record {
      name = name_fits index.name is.named;
      number = below;
      table = omega (arith, table.number, is.number);
      column = omega (arith, table.few, is.column);
    }

pub meant_fits : (catalogue : CatalogueItems) → AreMeant catalogue → FitsTypes catalogue → FitsCatalogue catalogue
meant_fits catalogue are typed = record {
  few_routes = omega (arith, are.routes.few);
  routes = λ k d inside. route_fits catalogue.routes are.routes (get_or catalogue.routes k d) (Contains-get_or catalogue.routes k d inside) (typed.born k d inside);
  few_tables = omega (arith, are.tables.few);
  tables = tables;
  few_indexes = omega (arith, are.indexes.few);
  indexes = λ k d inside.
      index_fits catalogue.tables (get_or catalogue.indexes k d) (λ table. All-contains FitsTable catalogue.tables table tables)
      (All-from_recursion (IsIndex catalogue.tables) catalogue.indexes are.indexes.each k d inside) (typed.index_numbers k d inside);
  few_views = omega (arith, are.views.few);
  views = λ k d inside. record {
    name = name_fits (get_or catalogue.views k d).name (All-from_recursion (IsView catalogue.tables) catalogue.views are.views.each k d inside).named;
    text = typed.texts k d inside;
  };
  few_alignments = omega (arith, are.alignments.few);
  alignments = λ k d inside.
      alignment_fits catalogue.routes are.routes (get_or catalogue.alignments k d)
      (All-from_recursion (IsAlignment catalogue.routes) catalogue.alignments are.alignments.each k d inside);
}
  where
    tables : All FitsTable catalogue.tables
    tables k d inside =
        table_fits (get_or catalogue.tables k d) (All-from_recursion IsTable catalogue.tables are.tables.each k d inside) (typed.table_numbers k d inside)
