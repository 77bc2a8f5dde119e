-- Records that lie in a file already, and what the file says of them.
use Rattle.std.specs.Prelude.{◌≡◌, ◌≤◌, ℕ, List, length}
use Rattle.rs_page_owners.specs.Counts.{◌&◌}
use Rattle.rs_pages.specs.PageMap.{PageMap}
use Rattle.rs_cell_versions.specs.declared.told.ToldRecords.{ToldRecords}
use Rattle.rs_versioned.specs.Records.{HoldsRecords, Kept}
use Rattle.rs_cell_versions.specs.Versioned.{Standing}

-- records stand as they were told: at this root, and so many live and are dead
pub record StandsAs (told : ToldRecords) (standing : Standing) : Type 0 where
  pub root : standing.root ≡ told.root
  pub living : standing.living ≡ told.living
  pub garbage : length standing.dead ≡ told.garbage

-- records of which this is so lie there as they were told, and each of their pages was reached once more
pub record OpensRecords {R : Type 0} (kept : Kept R) (pages : PageMap) (told : ToldRecords) (IsSo : List R → Type 0) (standing : Standing) (before after : ℕ → ℕ) : Type 0 where
  pub as_told : StandsAs told standing
  pub records : List R
  pub used : ℕ → ℕ
  pub holds : HoldsRecords kept pages standing told.accepted records used
  pub so : IsSo records
  pub reached : (number : ℕ) → after number ≡ (before & used) number

-- no records of which this is so lie there as they were told, in pages that weren't reached before
pub record OpensNone {R : Type 0} (kept : Kept R) (pages : PageMap) (told : ToldRecords) (IsSo : List R → Type 0) (before : ℕ → ℕ) : Type 0 where
  pub none : (standing : Standing) (records : List R) (used : ℕ → ℕ) → StandsAs told standing → HoldsRecords kept pages standing told.accepted records used
      → IsSo records → ((number : ℕ) → (before & used) number ≤ 1) → ⊥
