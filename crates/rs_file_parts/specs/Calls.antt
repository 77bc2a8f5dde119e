-- What the calls that change a file's parts leave of the pages, do, and answer.
use Rattle.std.specs.Prelude.{◌≡◌, ◌≤◌, ◌<◌, ◌%◌, ◌^◌, ℕ, Bool, false, Contains, IfOk, IsTrue, List, OnOk, Result, length}
use Rattle.std.specs.List.{AllByRecursion}
use Rattle.rs_catalog_pages.specs.Directory.{DirectoryItems, HasDirectory}
use Rattle.rs_catalog_pages.specs.Items.{CatalogueItems}
use Rattle.rs_catalog_pages.specs.Storing.{StoresAfter}
use Rattle.rs_catalog_pages.specs.declared.items.StoredCatalogue.{StoredCatalogue}
use Rattle.rs_cell_versions.specs.declared.cell.TheConstants.{LIVING}
use Rattle.rs_file.specs.Contents.{AreNumbered, Contents, HoldsAll, HoldsParts, SameContents}
use Rattle.rs_file.specs.declared.opened.OpenedFile.{OpenedFile}
use Rattle.rs_file_parts.specs.declared.definitions.Former.{Former}
use Rattle.rs_file_parts.specs.Clearing.{ClearsAsMany, ClearsFirst}
use Rattle.rs_file_parts.specs.Parts.{HoldsNoParts, IsOpenedFile, Makes}
use Rattle.rs_file_parts.specs.Slots.{HadSlots}
use Rattle.rs_page_owners.specs.Calls as owners
use Rattle.rs_pages.specs.PageMap.{PageMap}
use Rattle.rs_pages.specs.declared.pages.Pages.{Ghosts}
use Rattle.rs_refusal.specs.declared.refusal.Refusal.{Refusal}
use Rattle.rs_versioned.specs.Records.{HasEnded, HasOneMore}
use Rattle.rs_versioned.specs.Referents.{ReferentRecord, kept_referents}

-- ---- the directory

-- where contents lie there up to the version, with what is open, beside a directory, the file holds all of them with the directory
-- that was written, which has the version as the accepted one
pub record WritesDirectory (old new : PageMap) (file : OpenedFile) (version : ℕ) : Type 0 where
  pub directory : DirectoryItems
  pub accepted : directory.accepted ≡ version
  pub holds : (from : ℕ) (contents : Contents) (was : DirectoryItems) → from ≤ version → version < 2 ^ 63 → HasDirectory old was
      → HoldsParts old from contents → IsOpenedFile file contents → AllByRecursion (λ route. route.born ≤ version) contents.definitions.routes
      → HoldsAll new (record contents { directory = directory })

-- the file holds these contents with a directory that has the version as the accepted one
pub record HoldsWith (map : PageMap) (version : ℕ) (contents : Contents) : Type 0 where
  pub directory : DirectoryItems
  pub accepted : directory.accepted ≡ version
  pub holds : HoldsAll map (record contents { directory = directory })

-- the same where the slots of what is open were written into the directory that was there: it had nothing under the numbers of other
-- tables and indexes, and of these what stood there at the last commit
pub record RewritesDirectory (old new : PageMap) (file : OpenedFile) (version : ℕ) : Type 0 where
  pub each : (from : ℕ) (contents : Contents) (was : DirectoryItems) → from ≤ version → version < 2 ^ 63 → HasDirectory old was
      → AreNumbered contents.definitions was → HadSlots file was → HoldsParts old from contents → IsOpenedFile file contents
      → AllByRecursion (λ route. route.born ≤ version) contents.definitions.routes → HoldsWith new version contents

-- no contents lie there beside a directory
pub record HoldsNoDirectory (map : PageMap) : Type 0 where
  pub none : (directory : DirectoryItems) (accepted : ℕ) (contents : Contents) → HasDirectory map directory → HoldsParts map accepted contents → ⊥

-- ---- referents

-- the referents change so, and all else stays
pub record ChangesReferents (change : List ReferentRecord → List ReferentRecord → Type 0) (old now : Contents) : Type 0 where
  pub rest : now ≡ record old { referents = now.referents }
  pub changed : change old.referents.referents now.referents.referents

-- the living referent of this name on the route has ended at the version
pub record EndsOne (version route : ℕ) (name : List ℕ) (old now : List ReferentRecord) : Type 0 where
  pub one : ReferentRecord
  pub there : Contains old one
  pub route_is : one.route ≡ route
  pub name_is : one.name ≡ name
  pub living : one.died ≡ LIVING
  pub ended : HasEnded kept_referents version one old now

-- there is no such referent, and all stay
pub record EndsNone (route : ℕ) (name : List ℕ) (old now : List ReferentRecord) : Type 0 where
  pub none : (one : ReferentRecord) → Contains old one → one.route ≡ route → one.name ≡ name → one.died ≡ LIVING → ⊥
  pub same : now ≡ old

-- it was told whether there was one, and it has ended
pub record EndsNamed (version route : ℕ) (name : List ℕ) (found : Bool) (old now : List ReferentRecord) : Type 0 where
  pub one : IsTrue found → EndsOne version route name old now
  pub none : found ≡ false → EndsNone route name old now

-- ---- definitions

-- other definitions have taken the place of these, in other pages, and all else stays
pub record ChangesDefinitions (definitions : CatalogueItems) (old now : Contents) : Type 0 where
  pub definitions_are : now.definitions ≡ definitions
  pub rest : now ≡ record old { definitions = now.definitions; pages = now.pages }

-- what is open has these definitions now, and all else as it was, and what it had before was given back
pub record GivesFormer (definitions : StoredCatalogue) (was is : OpenedFile) (former : Former) : Type 0 where
  pub definitions_are : is.definitions ≡ definitions
  pub rest : is ≡ record was { definitions = is.definitions; pages = is.pages }
  pub former_definitions : former.definitions ≡ was.definitions
  pub former_pages : former.pages ≡ was.pages

-- ---- on pages

module _ {P : Type 0} (pages : Ghosts P) (was : OpenedFile) where
  -- what a call that changes a part leaves on any disk: 94 comes only where no contents lie there with what is open
  abbrev pub Leaves : {T : Type 0} → Result T Refusal → P → P → Type 0
  Leaves result old new = owners.Leaves pages (HoldsNoParts (pages.store old).map was) result old new

  -- the same of a call that may set where the definitions are
  pub record LeavesDefinitions {T : Type 0} (result : Result T Refusal) (old new : P) : Type 0 where
    pub keeps : pages.keeps old new
    pub works : StoresAfter (pages.is_tied old → HoldsNoParts (pages.store old).map was) result (pages.store old) (pages.store new)

  -- what the calls do and answer on the pages of an honest disk
  abbrev pub Writes : ℕ → Result (Unit {0}) Refusal → P → P → Type 0
  Writes version result old new = pages.is_tied old → OnOk result (WritesDirectory (pages.store old).map (pages.store new).map was version)

  abbrev pub Rewrites : ℕ → Result (Unit {0}) Refusal → P → P → Type 0
  Rewrites version result old new = pages.is_tied old → OnOk result (RewritesDirectory (pages.store old).map (pages.store new).map was version)

  abbrev pub Clears : OpenedFile → ℕ → ℕ → Result ℕ Refusal → P → P → Type 0
  Clears is oldest most result old new = pages.is_tied old → IfOk result (λ gone. (accepted : ℕ)
      → Makes (pages.store old).map (pages.store new).map was is accepted accepted (ClearsAsMany oldest most gone))

  -- of the tables the one with this number comes first, counted round and round
  abbrev pub StartsAt : OpenedFile → ℕ → ℕ → ℕ → Result ℕ Refusal → P → P → Type 0
  StartsAt is oldest most number result old new = pages.is_tied old → IfOk result (λ gone. (accepted : ℕ)
      → Makes (pages.store old).map (pages.store new).map was is accepted accepted (ClearsFirst oldest most (number % length was.tables.items)))

  abbrev pub Puts : OpenedFile → ℕ → ReferentRecord → Result (Unit {0}) Refusal → P → P → Type 0
  Puts is version one result old new = pages.is_tied old → OnOk result ((accepted : ℕ) → accepted ≤ version
      → Makes (pages.store old).map (pages.store new).map was is accepted version (ChangesReferents (HasOneMore one)))

  abbrev pub Ends : OpenedFile → ℕ → ℕ → List ℕ → Result Bool Refusal → P → P → Type 0
  Ends is version route name result old new = pages.is_tied old → IfOk result (λ found. (accepted : ℕ) → accepted ≤ version
      → Makes (pages.store old).map (pages.store new).map was is accepted version (ChangesReferents (EndsNamed version route name found)))

  abbrev pub Defines : {T : Type 0} → OpenedFile → CatalogueItems → Result T Refusal → P → P → Type 0
  Defines is definitions result old new = pages.is_tied old → OnOk result ((from to : ℕ) → from ≤ to
      → Makes (pages.store old).map (pages.store new).map was is from to (ChangesDefinitions definitions))

-- whatever contents lie there with what was open are the same that lie there with what is open now
abbrev pub StaysOpened : OpenedFile → OpenedFile → Type 0
StaysOpened was is = (map : PageMap) (accepted : ℕ) → Makes map map was is accepted accepted SameContents
