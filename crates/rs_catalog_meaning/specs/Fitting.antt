-- What the meaning of definitions leaves to the types of a `StoredCatalogue`.
use Rattle.std.specs.Prelude.{◌<◌, ◌^◌, All, length}
use Rattle.rs_catalog_pages.specs.Items.{CatalogueItems}

-- the numbers and texts that meaning doesn't bound fit their fields
pub record FitsTypes (catalogue : CatalogueItems) : Type 0 where
  pub born : All (λ route. route.born < 2 ^ 64) catalogue.routes
  pub table_numbers : All (λ table. table.number < 2 ^ 32) catalogue.tables
  pub index_numbers : All (λ index. index.number < 2 ^ 32) catalogue.indexes
  pub texts : All (λ view. length view.text < 2 ^ 16) catalogue.views
