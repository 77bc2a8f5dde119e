-- The definitions that a file lists, as the catalogue in memory has them.
use Rattle.std.specs.FinMap as names
use Rattle.rs_catalog.specs.Definitions.{Definitions}
use Rattle.rs_catalog_meaning.specs.Stating.{alignments_of}
use Rattle.rs_catalog_pages.specs.Items.{CatalogueItems}
use Rattle.rs_file_meaning.specs.States.{indexes_named, routes_named, tables_named}

-- All but the views, each with its number, and routes with their births.
abbrev pub without_views : CatalogueItems → Definitions
without_views catalogue = record {
  routes = routes_named catalogue.routes;
  tables = tables_named catalogue.tables;
  indexes = indexes_named catalogue.tables catalogue.indexes;
  views = names.empty;
  alignments = alignments_of catalogue.routes catalogue.alignments;
}
