-- What ends and what comes at a version, and that all else stays, whether a version sees it or not.
use Rattle.std.specs.Prelude.{◌≡◌, ◌++◌, ℕ, IsPermutation, List, map}
use Rattle.std.specs.List.{AllByRecursion}
use Rattle.rs_cell_versions.specs.declared.cell.TheConstants.{LIVING}
use Rattle.rs_versioned.specs.Events.{Event, ended_event}
use Rattle.rs_versioned.specs.Referents.{ReferentRecord, ended_referent}

-- some records that lived have ended at the version, others that live were born at it, and the rest are as they were
pub record Turns {R : Type 0} (born died : R → ℕ) (end_at : ℕ → R → R) (version : ℕ) (old now : List R) : Type 0 where
  pub ended : List R
  pub rest : List R
  pub come : List R
  pub lived : AllByRecursion (λ one. died one ≡ LIVING) ended
  pub born_then : AllByRecursion (λ one. (born one ≡ version) × (died one ≡ LIVING)) come
  pub were : IsPermutation old (ended ++ rest)
  pub are : IsPermutation now (map (end_at version) ended ++ (rest ++ come))

-- so the events of a table have turned
abbrev pub EventsTurn : ℕ → List Event → List Event → Type 0
EventsTurn = Turns (λ event. event.born) (λ event. event.died) ended_event

-- and so have referents
abbrev pub ReferentsTurn : ℕ → List ReferentRecord → List ReferentRecord → Type 0
ReferentsTurn = Turns (λ one. one.born) (λ one. one.died) ended_referent
