-- What the steps that open a file find.
use Rattle.std.specs.Prelude.{◌≡◌, ℕ, Err, IfOk, List, Result, Vec}
use Rattle.std.specs.declared.alloc.Global.{Global}
use Rattle.rs_refusal.specs.declared.refusal.Refusal.{Refusal}
use Rattle.rs_refusal.specs.declared.refusal.Refusal.TheVariants as refusal
use Rattle.rs_catalog_pages.specs.Directory.{DirectoryItems}
use Rattle.rs_catalog_pages.specs.Items.{CatalogueItems, TableItem}
use Rattle.rs_catalog_pages.specs.Said.{said_catalogue, said_directory}
use Rattle.rs_file.specs.Opening.{LoadsNothingSaid, LoadsSaid, OpensNoParts, OpensNoTables, OpensNotOne, OpensOne, OpensParts, OpensTables}
use Rattle.rs_file.specs.declared.loading.FileCatalogue.{FileCatalogue}
use Rattle.rs_file.specs.declared.opened.OpenedTable.{OpenedTable}
use Rattle.rs_pages.specs.PageMap.{PageMap}
use Rattle.rs_pages.specs.declared.pages.Pages.{Ghosts}
use Rattle.rs_versioned.specs.Tables.{ReferentTableState}
use Rattle.rs_versioned.specs.declared.route_span.RouteSpan.{RouteSpan}

-- definitions and a directory were found; 94 is answered only where there are no contents whose records are meant and whose definitions
-- lie in pages that weren't reached before
pub record SaysOn (pages : PageMap) (before after : ℕ → ℕ) (result : Result FileCatalogue Refusal) : Type 0 where
  pub loads : IfOk result (λ said. LoadsSaid pages said.pages.items (said_catalogue said.definitions) (said_directory said.directory) before after)
  pub damaged : result ≡ Err refusal.DamagedFile → LoadsNothingSaid pages before

-- so it is on the pages of an honest disk
abbrev pub Says : {P : Type 0} → Ghosts P → (ℕ → ℕ) → (ℕ → ℕ) → Result FileCatalogue Refusal → P → Type 0
Says pages before after result old = pages.is_tied old → SaysOn (pages.store old).map before after result

module _ (routes : List RouteSpan) (pages : PageMap) (directory : DirectoryItems) (definitions : CatalogueItems) where
  -- the table of an item was found as it is said, and is meant; 94 is answered only where no table that is meant lies there so, in pages
  -- that weren't reached before
  pub record OpensItemOn (item : TableItem) (before after : ℕ → ℕ) (result : Result OpenedTable Refusal) : Type 0 where
    pub opens : IfOk result (λ table. OpensOne routes pages directory definitions item table before after)
    pub damaged : result ≡ Err refusal.DamagedFile → OpensNotOne routes pages directory definitions item before

  -- the same of all tables
  pub record OpensEachOn (before after : ℕ → ℕ) (result : Result (Vec OpenedTable Global) Refusal) : Type 0 where
    pub opens : IfOk result (λ tables. OpensTables routes pages directory definitions definitions.tables tables.items before after)
    pub damaged : result ≡ Err refusal.DamagedFile → OpensNoTables routes pages directory definitions before

  -- the same of the tables, the referents and the free pages; 94 is answered only where no contents with these definitions and this
  -- directory are there whose records are meant, of which just the pages of the definitions were reached before
  pub record OpensAllOn (before after : ℕ → ℕ) (result : Result (Vec OpenedTable Global × ReferentTableState) Refusal) : Type 0 where
    pub opens : IfOk result (λ parts. OpensParts routes pages directory definitions parts.0.items parts.1 before after)
    pub damaged : result ≡ Err refusal.DamagedFile → OpensNoParts routes pages directory definitions before

-- so it is on the pages of an honest disk
module _ {P : Type 0} (pages : Ghosts P) (routes : List RouteSpan) (directory : DirectoryItems) (definitions : CatalogueItems) where
  abbrev pub OpensItem : TableItem → (ℕ → ℕ) → (ℕ → ℕ) → Result OpenedTable Refusal → P → Type 0
  OpensItem item before after result old = pages.is_tied old → OpensItemOn routes (pages.store old).map directory definitions item before after result

  abbrev pub OpensEach : (ℕ → ℕ) → (ℕ → ℕ) → Result (Vec OpenedTable Global) Refusal → P → Type 0
  OpensEach before after result old = pages.is_tied old → OpensEachOn routes (pages.store old).map directory definitions before after result

  abbrev pub OpensAll : (ℕ → ℕ) → (ℕ → ℕ) → Result (Vec OpenedTable Global × ReferentTableState) Refusal → P → Type 0
  OpensAll before after result old = pages.is_tied old → OpensAllOn routes (pages.store old).map directory definitions before after result
