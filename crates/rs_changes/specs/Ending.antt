-- What the functions that end a route's referents hand to one another.
use Rattle.std.specs.Prelude.{◌≡◌, ◌≤◌, ℕ, Contains, List, OnOk, Result}
use Rattle.rs_cell_versions.specs.Versioned.{Standing}
use Rattle.rs_cell_versions.specs.declared.cell.TheConstants.{LIVING}
use Rattle.rs_change_laws.specs.Parts.{EndsAllOn}
use Rattle.rs_page_owners.specs.Counts.{◌&◌}
use Rattle.rs_page_owners.specs.Owners.{Shares}
use Rattle.rs_pages.specs.PageMap.{PageMap}
use Rattle.rs_pages.specs.declared.pages.Pages.{Ghosts}
use Rattle.rs_refusal.specs.declared.refusal.Refusal.{Refusal}
use Rattle.rs_versioned.specs.Records.{ChangesRecords, HasEnded, HoldsRecords}
use Rattle.rs_versioned.specs.Referents.{ReferentRecord, SaysReferent, kept_referents}

-- no referents lie there so up to the version, with pages of their own
pub record HoldsNoReferents (map : PageMap) (standing : Standing) (version : ℕ) : Type 0 where
  pub none : (accepted : ℕ) (referents : List ReferentRecord) (used others : ℕ → ℕ) → accepted ≤ version
      → HoldsRecords kept_referents map standing accepted referents used → Shares map (used & others) → ⊥

-- the cell says no living referent of those that lie there
pub record SaysNoLiving (map : PageMap) (standing : Standing) (cell : List ℕ) : Type 0 where
  pub none : (accepted : ℕ) (referents : List ReferentRecord) (used others : ℕ → ℕ) (one : ReferentRecord)
      → HoldsRecords kept_referents map standing accepted referents used → Shares map (used & others)
      → SaysReferent cell one → Contains referents one → one.died ≡ LIVING → ⊥

-- on the pages of an honest disk
module _ {P : Type 0} (pages : Ghosts P) (was is : Standing) (version : ℕ) where
  -- those that live on the route have ended at the version
  abbrev pub EndsRoute : ℕ → Result (Unit {0}) Refusal → P → P → Type 0
  EndsRoute route result old new = pages.is_tied old → OnOk result ((accepted : ℕ) → accepted ≤ version
      → ChangesRecords kept_referents (pages.store old).map (pages.store new).map was is accepted version (EndsAllOn version route))

  -- the one of the cell has
  abbrev pub EndsCell : List ℕ → Result (Unit {0}) Refusal → P → P → Type 0
  EndsCell cell result old new = pages.is_tied old → OnOk result ((accepted : ℕ) (one : ReferentRecord) → accepted ≤ version → SaysReferent cell one
      → ChangesRecords kept_referents (pages.store old).map (pages.store new).map was is accepted version (HasEnded kept_referents version one))
