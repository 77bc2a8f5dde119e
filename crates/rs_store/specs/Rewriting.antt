-- Definitions that a file can keep, and what becomes of the file and of those in memory as others are written.
use Rattle.std.specs.Prelude.{◌≡◌, ◌≤◌, ◌<◌, ◌+◌, ◌^◌, ℕ, All, Err, OnErr, OnOk, Result, length}
use Rattle.std.specs.List.{AllByRecursion}
use Rattle.rs_catalog.specs.Definitions.{Definitions}
use Rattle.rs_catalog_meaning.specs.Meaning.{AreMeant}
use Rattle.rs_catalog_pages.specs.Items.{CatalogueItems}
use Rattle.rs_catalog_pages.specs.Said.{said_catalogue}
use Rattle.rs_catalog_pages.specs.Storing.{StoresAfter}
use Rattle.rs_changes.specs.Changing.{ChangesFile, HoldsNoFile}
use Rattle.rs_changes.specs.Calls.{MayChange}
pub use Rattle.rs_changes.specs.Calls.{HasTablesOf}
use Rattle.rs_file.specs.Contents.{Contents}
use Rattle.rs_file.specs.declared.opened.OpenedFile.{OpenedFile}
use Rattle.rs_file_parts.specs.Parts.{KeepsCommitted}
use Rattle.rs_pages.specs.Store.{Store}
use Rattle.rs_refusal.specs.declared.refusal.Refusal.{Refusal}
use Rattle.rs_refusal.specs.declared.refusal.Refusal.TheVariants as refusal
use Rattle.rs_stored_catalog.specs.Listing.{listing_of}

-- ---- definitions that a file can keep

-- their numbers and births fit the fields that a file has for them
pub record AreNumbersSmall (items : CatalogueItems) : Type 0 where
  pub births : All (λ route. route.born < 2 ^ 64) items.routes
  pub tables : All (λ table. table.number < 2 ^ 32) items.tables
  pub indexes : All (λ index. index.number < 2 ^ 32) items.indexes

-- each passes the checks and limits of its line, and the text of each view fits the field that a file has for it
pub record CanBeKept (items : CatalogueItems) : Type 0 where
  pub meant : AreMeant items
  pub texts : All (λ view. length view.text < 2 ^ 16) items.views

-- ---- definitions that are written, over any pages

-- What is open is at the next version, has these definitions, whose routes were born by that version, and can be changed again.
pub record IsNextWith (items : CatalogueItems) (was is : OpenedFile) : Type 0 where
  pub may : MayChange is
  pub accepted : is.accepted ≡ was.accepted + 1
  pub definitions_are : said_catalogue is.definitions ≡ items
  pub births : AllByRecursion (λ route. route.born ≤ was.accepted + 1) items.routes

module _ {P : Type 0} (is_tied : P → Type 0) (store : P → Store) (keeps : P → P → Type 0) where
  -- These definitions are in the file, and whatever contents it held have changed so; or that was refused, and only how the parts of what
  -- is open stand has changed. 94 comes only where a file can't keep the definitions, or the file holds no contents with what is open.
  pub record Rewrites (oldest : ℕ) (change : Contents → Contents → Type 0) (items : CatalogueItems) (result : Result (Unit {0}) Refusal) (old new : P) (was is : OpenedFile) : Type 0 where
    pub below : keeps old new
    pub stores : StoresAfter (CanBeKept items → is_tied old → HoldsNoFile (store old).map was) result (store old) (store new)
    pub changes : is_tied old → OnOk result (ChangesFile oldest (store old).map (store new).map was is change)
    pub next : OnOk result (IsNextWith items was is)
    pub stays : OnErr result (KeepsCommitted was is)

  -- The file and the catalogue in memory have the next definitions, or the catalogue is as it was.
  pub record Redefines (oldest : ℕ) (change : Contents → Contents → Type 0) (next : Definitions) (result : Result (Unit {0}) Refusal) (old new : P) (was is : OpenedFile)
      (catalog now : Definitions) : Type 0 where
    pub rewrites : Rewrites oldest change (listing_of next) result old new was is
    pub made : OnOk result (now ≡ next)
    pub back : OnErr result (now ≡ catalog)

  -- The same of what is defined under a number, which is as it has to be where there was memory to choose it.
  pub record RedefinesNumbered (oldest : ℕ) (is_number : ℕ → Type 0) (change : ℕ → Contents → Contents → Type 0) (next : ℕ → Definitions) (result : Result (Unit {0}) Refusal)
      (old new : P) (was is : OpenedFile) (catalog now : Definitions) : Type 0 where
    pub number : ℕ
    pub numbered : (result ≡ Err refusal.OutOfMemory → ⊥) → is_number number
    pub redefines : Redefines oldest (change number) (next number) result old new was is catalog now
