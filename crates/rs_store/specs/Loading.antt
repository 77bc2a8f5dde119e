-- What is brought into memory of a file that was opened.
use Rattle.std.specs.Prelude.{◌≡◌, Err, IfOk, Result}
use Rattle.rs_catalog.specs.Definitions.{Definitions, Numbered}
use Rattle.rs_catalog.specs.Referents.{HeldReferents}
use Rattle.rs_file.specs.Contents.{Contents, HoldsAll}
use Rattle.rs_file.specs.Meant.{HasMeantRecords}
use Rattle.rs_file.specs.declared.opened.OpenedFile.{OpenedFile}
use Rattle.rs_machine.specs.Lawful.{AreViewsMeant}
use Rattle.rs_machine.specs.State.{State}
use Rattle.rs_pages.specs.PageMap.{PageMap}
use Rattle.rs_pages.specs.declared.pages.Pages.{Ghosts}
use Rattle.rs_refusal.specs.declared.refusal.Refusal.{Refusal}
use Rattle.rs_file_meaning.specs.Meant.{IsMeant}
use Rattle.rs_file_meaning.specs.Standing.{StandsFor}
use Rattle.rs_file_meaning.specs.States.{IsState}
use Rattle.rs_refusal.specs.declared.refusal.Refusal.TheVariants as refusal
use Rattle.rs_store.specs.Kept.{AreInMemory, IsOpenedFile}
use Rattle.rs_store.specs.declared.loading.Loaded.{Loaded}

-- the pages hold these contents, whose records are meant, and they are open
pub record HoldsOpened (map : PageMap) (file : OpenedFile) (contents : Contents) : Type 0 where
  pub holds : HoldsAll map contents
  pub meant : HasMeantRecords contents
  pub opened : IsOpenedFile file contents

-- the definitions and the referents of the contents are in memory, which are meant and have a state
pub record BringsState (contents : Contents) (catalog : Definitions) (referents : Numbered HeldReferents) : Type 0 where
  pub memory : AreInMemory catalog referents contents
  pub meant : IsMeant contents.directory.accepted contents
  pub state : State
  pub is : IsState contents state
  pub views : AreViewsMeant state

-- the contents are not meant or have no state
pub record HasNoState (contents : Contents) : Type 0 where
  pub none : IsMeant contents.directory.accepted contents → (state : State) → IsState contents state → AreViewsMeant state → ⊥

-- the pages stand for a state, whose contents are open, with the definitions and the referents in memory
pub record LoadsState (map : PageMap) (file : OpenedFile) (catalog : Definitions) (referents : Numbered HeldReferents) : Type 0 where
  pub contents : Contents
  pub holds : HoldsAll map contents
  pub opened : IsOpenedFile file contents
  pub brings : BringsState contents catalog referents

-- the pages stand for no state
pub record StandsForNone (map : PageMap) : Type 0 where
  pub none : (contents : Contents) (state : State) → StandsFor map contents state → ⊥

-- and for one
pub record StandsForSome (map : PageMap) : Type 0 where
  pub contents : Contents
  pub state : State
  pub stands : StandsFor map contents state

-- ---- on the pages of an honest disk

module _ {P : Type 0} (pages : Ghosts P) where
  -- they stand for a state, which is in memory
  abbrev pub Loads : Result Loaded Refusal → P → Type 0
  Loads result old = pages.is_tied old → IfOk result (λ loaded. LoadsState (pages.store old).map loaded.file loaded.catalog loaded.referents)

  -- 94 is answered only where they stand for none
  abbrev pub LoadsNone : Result Loaded Refusal → P → Type 0
  LoadsNone result old = pages.is_tied old → result ≡ Err refusal.DamagedFile → StandsForNone (pages.store old).map

  -- the definitions and the referents of what they hold, which is open, are in memory
  abbrev pub Brings : OpenedFile → Result (Definitions × Numbered HeldReferents) Refusal → P → Type 0
  Brings file result old = pages.is_tied old → IfOk result (λ said. (contents : Contents) → HoldsOpened (pages.store old).map file contents → BringsState contents said.0 said.1)

  -- 94 is answered only where that is not meant or has no state
  abbrev pub BringsNone : OpenedFile → Result (Definitions × Numbered HeldReferents) Refusal → P → Type 0
  BringsNone file result old = pages.is_tied old → result ≡ Err refusal.DamagedFile → (contents : Contents)
      → HoldsOpened (pages.store old).map file contents → HasNoState contents
