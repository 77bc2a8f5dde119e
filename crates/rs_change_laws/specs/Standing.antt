-- The contents of a file that are open and in memory, and the state that they stand for.
use Rattle.std.specs.Prelude.{◌≡◌, ◌≤◌, ℕ}
use Rattle.std.specs.List.{AllZip}
use Rattle.rs_catalog.specs.Definitions.{Definitions, Numbered}
use Rattle.rs_catalog.specs.Referents.{HeldReferents, referents_on}
use Rattle.rs_catalog_pages.specs.Said.{said_catalogue}
use Rattle.rs_file_parts.specs.Contents.{Contents, HoldsAll}
use Rattle.rs_file_parts.specs.Opening.{IsOpened}
use Rattle.rs_file_parts.specs.OpenedFile.{OpenedFile}
use Rattle.rs_file_meaning.specs.Meant.{IsMeant}
use Rattle.rs_file_meaning.specs.Seen.{referents_seen}
use Rattle.rs_file_meaning.specs.States.{AreDefinitionsAt, IsState}
use Rattle.rs_machine.specs.Lawful.{AreViewsMeant}
use Rattle.rs_machine.specs.State.{State}
use Rattle.rs_pages.specs.PageMap.{PageMap}

-- what is open is that of the contents
pub record IsOpenedFile (file : OpenedFile) (contents : Contents) : Type 0 where
  pub definitions : contents.definitions ≡ said_catalogue file.definitions
  pub pages : contents.pages ≡ file.pages.items
  pub tables : AllZip IsOpened file.tables.items contents.tables
  pub referents : contents.referents.standing ≡ file.referents.working
  pub accepted : contents.directory.accepted ≡ file.accepted

-- in memory are the definitions of the contents, and on each route the referents that the version accepted last sees
pub record AreInMemory (definitions : Definitions) (held : Numbered HeldReferents) (contents : Contents) : Type 0 where
  pub catalog : AreDefinitionsAt contents.directory.accepted contents.definitions definitions
  pub referents : (route : ℕ) → referents_on held route ≡ referents_seen contents contents.directory.accepted route

-- The pages hold contents that are open and in memory. They are meant from the oldest version on, and have this state.
pub record StandsAt (oldest : ℕ) (map : PageMap) (file : OpenedFile) (definitions : Definitions) (held : Numbered HeldReferents) (state : State) : Type 0 where
  pub contents : Contents
  pub holds : HoldsAll map contents
  pub opened : IsOpenedFile file contents
  pub memory : AreInMemory definitions held contents
  pub live : oldest ≤ contents.directory.accepted
  pub meant : IsMeant oldest contents
  pub is : IsState contents state
  pub views : AreViewsMeant state
