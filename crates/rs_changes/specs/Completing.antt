-- What completes a change once its part has changed.
use Rattle.std.specs.Prelude.{◌≡◌, ◌≤◌, ◌+◌, ℕ, OnOk, Result}
use Rattle.std.specs.List.{AllByRecursion}
use Rattle.rs_catalog_pages.specs.Directory.{DirectoryItems, HasDirectory}
use Rattle.rs_change_laws.specs.Standing.{IsOpenedFile}
use Rattle.rs_file.specs.Contents.{AreNumbered, Contents, HoldsAll, HoldsParts}
use Rattle.rs_file.specs.declared.opened.OpenedFile.{OpenedFile}
use Rattle.rs_file_parts.specs.Clearing.{ClearsAsMany}
use Rattle.rs_file_parts.specs.Parts as parts
use Rattle.rs_file_parts.specs.Slots.{HadSlots}
use Rattle.rs_pages.specs.PageMap.{PageMap}
use Rattle.rs_pages.specs.declared.pages.Pages.{Ghosts}
use Rattle.rs_refusal.specs.declared.refusal.Refusal.{Refusal}

-- some records are cleared, and the file holds all with the next version as the one that was accepted last
pub record Completed (oldest ended : ℕ) (was : OpenedFile) (between : Contents) (new : PageMap) (is : OpenedFile) : Type 0 where
  pub contents : Contents
  pub most : ℕ
  pub gone : ℕ
  pub least : 64 ≤ most
  pub few : most ≤ 64 + ended
  pub cleared : ClearsAsMany oldest most gone between (record contents { directory = between.directory })
  pub next : contents.directory.accepted ≡ was.accepted + 1
  pub holds : HoldsAll new contents
  pub opened : IsOpenedFile is contents

-- whatever contents lie there with what was open, up to the next version, beside a directory that has nothing under the numbers of other
-- tables and indexes, and of these what stood there at the last commit
pub record CompletesFrom (oldest ended : ℕ) (old new : PageMap) (was is : OpenedFile) : Type 0 where
  pub each : (between : Contents) (directory : DirectoryItems) → HasDirectory old directory → AreNumbered between.definitions directory → HadSlots was directory → HoldsParts old (was.accepted + 1) between
      → parts.IsOpenedFile was between → AllByRecursion (λ route. route.born ≤ was.accepted + 1) between.definitions.routes
      → Completed oldest ended was between new is

-- no contents lie there with what is open, up to the next version, beside a directory
pub record HoldsNoneToComplete (map : PageMap) (file : OpenedFile) : Type 0 where
  pub none : (between : Contents) (directory : DirectoryItems) → HasDirectory map directory → HoldsParts map (file.accepted + 1) between
      → parts.IsOpenedFile file between → ⊥

-- so it is on the pages of an honest disk
abbrev pub Completes : {P : Type 0} → Ghosts P → ℕ → ℕ → OpenedFile → OpenedFile → Result (Unit {0}) Refusal → P → P → Type 0
Completes pages oldest ended was is result old new = pages.is_tied old
    → OnOk result (CompletesFrom oldest ended (pages.store old).map (pages.store new).map was is)
