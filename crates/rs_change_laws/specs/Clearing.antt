-- What becomes of a file from which records are cleared and in which nothing else changes, and of the state that it stands for.
use Rattle.std.specs.Prelude.{◌≡◌, ℕ}
use Rattle.rs_catalog.specs.Definitions.{Definitions, Numbered}
use Rattle.rs_catalog.specs.Referents.{HeldReferents}
use Rattle.rs_change_laws.specs.Standing.{IsOpenedFile, StandsAt}
use Rattle.rs_file_parts.specs.Contents.{Contents, HoldsAll}
use Rattle.rs_file_parts.specs.OpenedFile.{OpenedFile}
use Rattle.rs_file_meaning.specs.Live.{KeepsLive}
use Rattle.rs_file_parts.specs.Clearing.{ClearsAsMany}
use Rattle.rs_machine.specs.State.{State}
use Rattle.rs_pages.specs.PageMap.{PageMap}

-- So many of the records that no version from the oldest on sees are gone, which is all of them or as many as were asked for. The
-- definitions stay, and so does the version that was accepted last.
pub record LosesRecords (oldest most gone : ℕ) (old now : Contents) : Type 0 where
  pub cleared : ClearsAsMany oldest most gone old (record now { directory = old.directory })
  pub accepted : now.directory.accepted ≡ old.directory.accepted

-- the contents have lost so many records, and the file holds them with what is open
pub record HoldsFewer (oldest most gone : ℕ) (old : Contents) (map : PageMap) (file : OpenedFile) : Type 0 where
  pub contents : Contents
  pub loses : LosesRecords oldest most gone old contents
  pub holds : HoldsAll map contents
  pub opened : IsOpenedFile file contents

-- whatever contents the file held with what was open have lost so many
pub record ClearsFile (oldest most gone : ℕ) (old new : PageMap) (was is : OpenedFile) : Type 0 where
  pub each : (contents : Contents) → HoldsAll old contents → IsOpenedFile was contents → HoldsFewer oldest most gone contents new is

-- the file stands for the state, from the oldest version on, which with all later ones sees what it saw
pub record StandsFewer (oldest most gone : ℕ) (old : Contents) (map : PageMap) (file : OpenedFile) (definitions : Definitions) (held : Numbered HeldReferents) (state : State) : Type 0 where
  pub stands : StandsAt oldest map file definitions held state
  pub loses : LosesRecords oldest most gone old stands.contents
  pub live : KeepsLive oldest old stands.contents
