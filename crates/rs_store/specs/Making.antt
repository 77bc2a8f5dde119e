-- A file that was made, in which nothing is defined.
use Rattle.std.specs.Prelude.{◌≡◌, ◌≤◌}
use Rattle.rs_catalog.specs.Definitions.{Definitions, Numbered}
use Rattle.rs_catalog.specs.Referents.{HeldReferents}
use Rattle.rs_disk.specs.declared.disk.Disk as disk
use Rattle.rs_file.specs.Contents.{Contents}
use Rattle.rs_file.specs.declared.opened.OpenedFile.{OpenedFile}
use Rattle.rs_file_meaning.specs.Standing.{StandsFor}
use Rattle.rs_machine.specs.State.{fresh}
use Rattle.rs_pager.specs.Lasts.{KeepsMap}
use Rattle.rs_pager.specs.Maps.{IsTied, committed, working}
use Rattle.rs_pager.specs.Paged.{Paged}
use Rattle.rs_pages.specs.PageMap.{SamePages}
use Rattle.rs_store.specs.Kept.{StandsIn}
use Rattle.rs_store.specs.Lasting.{IsLast}

module _ {D : Type 0} (d : disk.Ghosts D) where
  -- the pages are those of an honest disk, which keeps them, and stand for the state at the beginning, from its first version on
  pub record IsFreshFile (p : Paged D) : Type 0 where
    pub tied : IsTied d p
    pub kept : KeepsMap d p (committed d p)
    pub within : p.committed_fields.pages ≤ p.limit
    pub same : SamePages (working d p) (committed d p)
    pub contents : Contents
    pub first : contents.directory.accepted ≡ 0
    pub stands : StandsFor (committed d p) contents fresh

  -- the store over these pages stands in the state at the beginning, which is kept last
  pub record HasFresh (p : Paged D) (file : OpenedFile) (catalog : Definitions) (referents : Numbered HeldReferents) : Type 0 where
    pub stands : StandsIn d 0 (record { pager = p; file = file; catalog = catalog; referents = referents }) fresh
    pub last : IsLast d p fresh
