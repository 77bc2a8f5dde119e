-- What the calls on the catalogue and the directory in pages answer and do.
use Rattle.std.specs.Prelude.{◌≡◌, ◌⊎◌, ℕ, List, Vec, Err, IfErr, IfOk, OnErr, OnOk, Result}
use Rattle.std.specs.declared.alloc.Global.{Global}
use Rattle.rs_refusal.specs.declared.refusal.Refusal.{Refusal}
use Rattle.rs_refusal.specs.declared.refusal.Refusal.TheVariants as refusal
use Rattle.rs_pages.specs.Store.{Rests}
use Rattle.rs_pages.specs.declared.pages.Pages.{Ghosts}
use Rattle.rs_catalog_pages.specs.Directory.{HasDirectory, HasNoDirectory, HasSomeDirectory, StoresDirectory}
use Rattle.rs_catalog_pages.specs.Items.{CatalogueItems}
use Rattle.rs_catalog_pages.specs.Directory.{DirectoryItems}
use Rattle.rs_catalog_pages.specs.Loading.{HasNoFreshCatalogue, LoadsCatalogue}
use Rattle.rs_catalog_pages.specs.Said.{said_catalogue, said_directory}
use Rattle.rs_catalog_pages.specs.Storing.{HasNoOwnBytes, StoresAfter, StoresCatalogue}
use Rattle.rs_catalog_pages.specs.declared.directory_items.StoredDirectory.{StoredDirectory}
use Rattle.rs_catalog_pages.specs.declared.items.StoredCatalogue.{StoredCatalogue}

-- why a call that reads is refused: want of memory, a call of the disk that failed, or, on an honest disk only where it is
-- missing, a damaged file
pub record RefusesToRead (tied missing : Type 0) (why : Refusal) : Type 0 where
  pub cause : (why ≡ refusal.OutOfMemory) ⊎ (why ≡ refusal.Disk) ⊎ (why ≡ refusal.DamagedFile)
  pub damaged : tied → why ≡ refusal.DamagedFile → missing

module _ {P : Type 0} (pages : Ghosts P) where
  -- on an honest disk the definitions that are answered are there, and each of their pages was reached once more. Pages are told
  -- by how often they were reached before and after it
  abbrev pub Loads : (ℕ → ℕ) → (ℕ → ℕ) → Result (Vec ℕ Global × StoredCatalogue) Refusal → P → Type 0
  Loads before after result old = pages.is_tied old
      → IfOk result (λ loaded. LoadsCatalogue (pages.store old).map before after loaded.0.items (said_catalogue loaded.1))

  -- 94 only where no pages that weren't reached before hold definitions
  abbrev pub RefusesToLoad : (ℕ → ℕ) → Result (Vec ℕ Global × StoredCatalogue) Refusal → P → Type 0
  RefusesToLoad before result old = IfErr result (RefusesToRead (pages.is_tied old) (HasNoFreshCatalogue (pages.store old).map before))

  -- on an honest disk page 1 is the directory that is answered
  abbrev pub LoadsDirectory : Result StoredDirectory Refusal → P → Type 0
  LoadsDirectory result old = pages.is_tied old → IfOk result (λ directory. HasDirectory (pages.store old).map (said_directory directory))

  -- 94 only where page 1 is no directory
  abbrev pub RefusesToLoadDirectory : Result StoredDirectory Refusal → P → Type 0
  RefusesToLoadDirectory result old = IfErr result (RefusesToRead (pages.is_tied old) (HasNoDirectory (pages.store old).map))

  -- 90 on an honest disk only where page 1 says a directory, for which memory is wanted
  abbrev pub WantsMemoryForDirectory : Result StoredDirectory Refusal → P → Type 0
  WantsMemoryForDirectory result old = pages.is_tied old → result ≡ Err refusal.OutOfMemory → HasSomeDirectory (pages.store old).map

  -- what storing definitions leaves on any disk, and which refusals may come: 94 on an honest disk only where these pages, each
  -- one owner's, hold no bytes of a catalogue
  pub record LeavesCatalogue {T : Type 0} (numbers : List ℕ) (result : Result T Refusal) (old new : P) : Type 0 where
    pub keeps : pages.keeps old new
    pub works : StoresAfter (pages.is_tied old → HasNoOwnBytes (pages.store old).map numbers) result (pages.store old) (pages.store new)

  -- on an honest disk the definitions are in the pages that are answered now
  abbrev pub Stores : List ℕ → CatalogueItems → Result (Vec ℕ Global) Refusal → P → P → Type 0
  Stores numbers catalogue result old new = pages.is_tied old
      → IfOk result (λ after. StoresCatalogue (pages.store old).map (pages.store new).map numbers after.items catalogue)

  -- on an honest disk page 1 is this directory now
  abbrev pub StoresNewDirectory : DirectoryItems → Result (Unit {0}) Refusal → P → P → Type 0
  StoresNewDirectory directory result old new = pages.is_tied old
      → OnOk result (StoresDirectory (pages.store old).map (pages.store new).map directory)

  -- nothing has changed after a refusal
  abbrev pub StaysRefused : {T : Type 0} → Result T Refusal → P → P → Type 0
  StaysRefused result old new = OnErr result (Rests (pages.is_tied old) (pages.store old) (pages.store new))
