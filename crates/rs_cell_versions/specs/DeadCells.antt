-- The dead cells that lie one after another in one buffer.
use Rattle.std.specs.Prelude.{◌≤◌, ◌*◌, ◌-◌, ℕ, List, drop, length}
use Rattle.rs_records.specs.Records.{records}
use Rattle.rs_cell_versions.specs.Versioned.{AreInOrder}

-- the width of the cells, those that are listed now, those that were at the last commit, and the bytes of one that is
-- written but not listed yet
pub record DeadCells : Type 0 where
  pub width : ℕ
  pub working : List (List ℕ)
  pub committed : List (List ℕ)
  pub written : List ℕ

-- the cells of the buffer from the first index on, below the end index
unfoldable pub part : ℕ → ℕ → ℕ → List ℕ → List (List ℕ)
part first end width bytes = drop first (records end width bytes)

-- the parts lie in the buffer, and each is in the order of death. At the last commit no more room was left before the first cell
-- than the cells take
pub record HoldsDead (width first end kept_first kept_end : ℕ) (bytes : List ℕ) : Type 0 where
  pub wide : 20 ≤ width
  pub fits : end * width ≤ length bytes
  pub begins : first ≤ end
  pub kept_begins : kept_first ≤ kept_end
  pub given_back : kept_first ≤ kept_end - kept_first
  pub within : kept_end ≤ end
  pub in_order : AreInOrder (part first end width bytes)
  pub kept_in_order : AreInOrder (part kept_first kept_end width bytes)
