-- The referents of one route that a version sees, as they are brought into memory.
use Rattle.std.specs.Prelude.{◌≡◌, ◌≢◌, ℕ, List, Result, Err, IfOk}
use Rattle.std.specs.FinMap as names
use Rattle.std.specs.List.{AllByRecursion}
use Rattle.rs_catalog.specs.Referents.{referents_on}
use Rattle.rs_catalog.specs.declared.referents.RouteReferents.{RouteReferents}
use Rattle.rs_facts.specs.Fact.{Names}
use Rattle.rs_pages.specs.declared.pages.Pages.{Ghosts}
use Rattle.rs_refusal.specs.declared.refusal.Refusal.{Refusal}
use Rattle.rs_stored_catalog.specs.Referents.{IsSpan, OfThose}
use Rattle.rs_refusal.specs.declared.refusal.Refusal.TheVariants as refusal
use Rattle.rs_versioned.specs.Meant.{AreReferentsMeant}
use Rattle.rs_versioned.specs.Referents.{referents_at}
use Rattle.rs_versioned.specs.Tables.{ReferentTableState}
use Rattle.rs_versioned.specs.declared.route_span.RouteSpan.{RouteSpan}

-- the route of this number has these referents, and no other has any
pub record HasAlone (number : ℕ) (referents : Names ℕ) (held : ℕ → Names ℕ) : Type 0 where
  pub there : held number ≡ referents
  pub others : (other : ℕ) → other ≢ number → held other ≡ names.empty

module _ {P : Type 0} (pages : Ghosts P) (table : ReferentTableState) (number version : ℕ) where
  -- on an honest disk the route has just the referents that the version sees on it, where they are meant beside routes such as a file
  -- may have
  abbrev pub BringsRoute : Result RouteReferents Refusal → P → Type 0
  BringsRoute result old = pages.is_tied old → IfOk result (λ made. OfThose (pages.store old).map table (λ referents.
      (routes : List RouteSpan) → AllByRecursion IsSpan routes → AreReferentsMeant routes version referents
      → HasAlone number (names.from_entries (referents_at version number referents)) (referents_on made)))

  -- on an honest disk it is found damaged only where no referents lie there, or they are not meant beside such routes
  abbrev pub FindsRouteDamaged : Result RouteReferents Refusal → P → Type 0
  FindsRouteDamaged result old = pages.is_tied old → result ≡ Err refusal.DamagedFile → OfThose (pages.store old).map table (λ referents.
      (routes : List RouteSpan) → AllByRecursion IsSpan routes → AreReferentsMeant routes version referents → ⊥)
