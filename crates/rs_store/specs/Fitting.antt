-- Definitions for which a file has room.
use Rattle.std.specs.Prelude.{◌≤◌, All, length}
use Rattle.rs_catalog_pages.specs.Fitting.{FitsAlignment, FitsIndex, FitsRoute, FitsTable, FitsView}
use Rattle.rs_catalog_pages.specs.Items.{CatalogueItems}
use Rattle.rs_machine.specs.declared.limits.TheConstants.{ALIGNMENTS, INDEXES, ROUTES, TABLES, VIEWS}

-- no more of each kind than there may be
pub record AreFew (items : CatalogueItems) : Type 0 where
  pub routes : length items.routes ≤ ROUTES
  pub tables : length items.tables ≤ TABLES
  pub indexes : length items.indexes ≤ INDEXES
  pub views : length items.views ≤ VIEWS
  pub alignments : length items.alignments ≤ ALIGNMENTS

-- bytes can say each of them
pub record FitFields (items : CatalogueItems) : Type 0 where
  pub routes : All FitsRoute items.routes
  pub tables : All FitsTable items.tables
  pub indexes : All FitsIndex items.indexes
  pub views : All FitsView items.views
  pub alignments : All FitsAlignment items.alignments
