-- What the call that opens referents does and answers.
use Rattle.std.specs.Prelude.{◌≡◌, ◌⊎◌, ℕ, Err, List, Result, IfErr, IfOk}
use Rattle.rs_refusal.specs.declared.refusal.Refusal.{Refusal}
use Rattle.rs_refusal.specs.declared.refusal.Refusal.TheVariants as refusal
use Rattle.rs_pages.specs.declared.pages.Pages.{Ghosts}
use Rattle.rs_cell_versions.specs.Version.{HaveDiedBy}
use Rattle.rs_cell_versions.specs.declared.told.ToldRecords.{ToldRecords}
use Rattle.rs_versioned.specs.Meant.{AreReferentsMeant}
use Rattle.rs_versioned.specs.Opening.{OpensNone, OpensRecords}
use Rattle.rs_versioned.specs.Referents.{ReferentRecord, kept_referents}
use Rattle.rs_versioned.specs.Tables.{ReferentTableState}
use Rattle.rs_versioned.specs.declared.route_span.RouteSpan.{RouteSpan}

-- what a table that was opened is, whatever the pages are: nothing has changed since the commit, and none died later
pub record IsOpened (told : ToldRecords) (table : ReferentTableState) : Type 0 where
  pub committed : table.committed ≡ table.working
  pub order : HaveDiedBy told.accepted table.working.dead

module _ {P : Type 0} (pages : Ghosts P) (told : ToldRecords) (routes : List RouteSpan) (before : ℕ → ℕ) where
  -- those that the last version sees are meant beside these routes
  abbrev pub AreMeantAsTold : List ReferentRecord → Type 0
  AreMeantAsTold = AreReferentsMeant routes told.accepted

  -- on the pages of an honest disk the referents lie there as they were told, and are meant
  abbrev pub Opens : (ℕ → ℕ) → Result ReferentTableState Refusal → P → Type 0
  Opens after result old = pages.is_tied old
      → IfOk result (λ table. OpensRecords kept_referents (pages.store old).map told AreMeantAsTold table.working before after)

  -- why it is refused: 94, on such pages, only where no such referents lie there
  pub record RefusesToOpen (result : Result ReferentTableState Refusal) (old : P) : Type 0 where
    pub cause : IfErr result (λ why. (why ≡ refusal.OutOfMemory) ⊎ (why ≡ refusal.Disk) ⊎ (why ≡ refusal.DamagedFile))
    pub damaged : pages.is_tied old → result ≡ Err refusal.DamagedFile → OpensNone kept_referents (pages.store old).map told AreMeantAsTold before
