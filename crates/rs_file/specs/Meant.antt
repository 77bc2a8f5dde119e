-- Which records of a file are meant in the version that was accepted last, beside the routes that are there.
use Rattle.std.specs.Prelude.{◌≤◌, ℕ, List, map}
use Rattle.std.specs.List.{AllZip}
use Rattle.rs_catalog_pages.specs.Items.{CatalogueItems, RouteItem, TableItem, kind_of}
use Rattle.rs_file.specs.Contents.{Contents, TableContents}
use Rattle.rs_page_owners.specs.Counts.{times}
use Rattle.rs_versioned.specs.Meant.{AreEventsMeant, AreReferentsMeant}
use Rattle.rs_versioned.specs.declared.route_span.RouteSpan.{RouteSpan}

-- the route, as records are looked at beside it
abbrev pub span_of_route : RouteItem → RouteSpan
span_of_route route = record { number = route.number; start = route.start; finish = route.finish }

abbrev pub route_spans : CatalogueItems → List RouteSpan
route_spans definitions = map span_of_route definitions.routes

-- the version has just the runs of the table's facts, on these routes
abbrev pub IsTableMeant : List RouteSpan → ℕ → TableItem → TableContents → Type 0
IsTableMeant routes version item table = AreEventsMeant routes (kind_of item.kind) version table.events

-- the events of each table and the referents are meant, beside these routes
pub record AreRecordsMeantOn (routes : List RouteSpan) (contents : Contents) : Type 0 where
  pub tables : AllZip (IsTableMeant routes contents.directory.accepted) contents.definitions.tables contents.tables
  pub referents : AreReferentsMeant routes contents.directory.accepted contents.referents.referents

-- each route has a number of its own, and the records are meant beside the routes
pub record HasMeantRecords (contents : Contents) : Type 0 where
  pub routes_once : (number : ℕ) → times (map (λ route. route.number) contents.definitions.routes) number ≤ 1
  pub on_routes : AreRecordsMeantOn (route_spans contents.definitions) contents
