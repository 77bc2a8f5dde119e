-- Records by version: what the cells of a tree say.
use Rattle.std.specs.Prelude.{◌≡◌, ◌≤◌, ◌<◌, ◌^◌, ℕ, Bool, ◌&&◌, nat_le, nat_lt, List, [], ◌∷◌, ◌++◌, ◌⊎◌, Contains, IsPermutation, length}
use Rattle.std.specs.List.{AllByRecursion, AllZip}
use Rattle.rs_page_owners.specs.Counts.{◌&◌}
use Rattle.rs_page_owners.specs.Owners.{Moves, Shares}
use Rattle.rs_pages.specs.PageMap.{PageMap}
use Rattle.rs_tree.specs.Form.{Form}
use Rattle.rs_cell_versions.specs.Version.{IsDated, born_of, died_of, ended}
use Rattle.rs_cell_versions.specs.Versioned.{HoldsCells, Standing}

-- how records are kept: the form of their tree, which cells say which record, and from which version up to which one is seen
pub record Kept (R : Type 0) : Type 1 where
  pub form : Form
  pub says : List ℕ → R → Type 0
  pub born : R → ℕ
  pub died : R → ℕ
  pub ended : ℕ → R → R

-- a cell says one record, which has one cell, and the record's versions are the cell's
pub record IsKept {R : Type 0} (kept : Kept R) : Type 0 where
  pub one : (cell : List ℕ) (a b : R) → kept.says cell a → kept.says cell b → a ≡ b
  pub has_one : (cell other : List ℕ) (a : R) → kept.says cell a → kept.says other a → cell ≡ other
  pub long : (cell : List ℕ) (a : R) → kept.says cell a → 20 ≤ length cell
  pub born : (cell : List ℕ) (a : R) → kept.says cell a → born_of cell ≡ kept.born a
  pub died : (cell : List ℕ) (a : R) → kept.says cell a → died_of cell ≡ kept.died a
  pub ends : (version : ℕ) (cell : List ℕ) (a : R) → version < 2 ^ 64 → kept.says cell a → kept.says (ended version cell) (kept.ended version a)

-- the version sees the record
abbrev pub is_seen : {R : Type 0} → Kept R → ℕ → R → Bool
is_seen kept version one = nat_le (kept.born one) version && nat_lt version (kept.died one)

-- cells that say these records lie in a tree with these pages, and none was born or died after the version that was accepted last
pub record HoldsRecords {R : Type 0} (kept : Kept R) (pages : PageMap) (standing : Standing) (accepted : ℕ) (records : List R) (used : ℕ → ℕ) : Type 0 where
  pub cells : List (List ℕ)
  pub holds : HoldsCells kept.form pages standing cells used
  pub say : AllZip kept.says cells records
  pub dated : AllByRecursion (IsDated accepted) cells

-- other records have taken the place of these as the change says, and their pages have moved beside those of any other owners
pub record BecomesRecords {R : Type 0} (kept : Kept R) (old new : PageMap) (before : ℕ → ℕ) (standing : Standing) (accepted : ℕ) (change : List R → Type 0) : Type 0 where
  pub records : List R
  pub after : ℕ → ℕ
  pub holds : HoldsRecords kept new standing accepted records after
  pub moves : Moves old new before after
  pub changed : change records

-- where records up to a version lie there, whose pages are shared with other owners and a free list, changed ones take their place
pub record ChangesRecords {R : Type 0} (kept : Kept R) (old new : PageMap) (was is : Standing) (from to : ℕ) (change : List R → List R → Type 0) : Type 0 where
  pub each : (records : List R) (used others : ℕ → ℕ) → HoldsRecords kept old was from records used → Shares old (used & others)
      → BecomesRecords kept old new used is to (change records)

-- the record is one of these, and they stay
pub record WasThere {R : Type 0} (one : R) (old now : List R) : Type 0 where
  pub there : Contains old one
  pub same : IsPermutation now old

-- the record is none of these, and they stay
pub record WasMissing {R : Type 0} (one : R) (old now : List R) : Type 0 where
  pub missing : Contains old one → ⊥
  pub same : IsPermutation now old

-- the record was none of these and was added
pub record WasAdded {R : Type 0} (one : R) (old now : List R) : Type 0 where
  pub missing : Contains old one → ⊥
  pub more : IsPermutation now (one ∷ old)

-- a record was added, where it was not one of these
abbrev pub HasOneMore : {R : Type 0} → R → List R → List R → Type 0
HasOneMore one old now = WasThere one old now ⊎ WasAdded one old now

-- the record was one of these and has ended; where no version is left that sees it, it is gone
pub record WasEnded {R : Type 0} (kept : Kept R) (version : ℕ) (one : R) (old now : List R) : Type 0 where
  pub rest : List R
  pub were : IsPermutation old (one ∷ rest)
  pub are : ((kept.born one < version) × HasOneMore (kept.ended version one) rest now) ⊎ ((version ≤ kept.born one) × IsPermutation now rest)

-- a record has ended, where it was one of these
abbrev pub HasEnded : {R : Type 0} → Kept R → ℕ → R → List R → List R → Type 0
HasEnded kept version one old now = WasMissing one old now ⊎ WasEnded kept version one old now

-- the records of these cells are gone, and no version from the oldest on saw one of them
pub record HasCleared {R : Type 0} (kept : Kept R) (oldest : ℕ) (cells : List (List ℕ)) (old now : List R) : Type 0 where
  pub gone : List R
  pub say : AllZip kept.says cells gone
  pub unseen : AllByRecursion (λ one. kept.died one ≤ oldest) gone
  pub rest : IsPermutation old (gone ++ now)

-- none is left
abbrev pub HasNone : {R : Type 0} → List R → List R → Type 0
HasNone old now = now ≡ []
