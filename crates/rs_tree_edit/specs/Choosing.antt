-- Which entry a cell belongs under.
use Rattle.std.specs.Prelude.{◌≡◌, ◌<◌, ℕ, suc, true, false, List, [], slice_index_or, length}
use Rattle.rs_records.specs.Order.{is_below}

-- the last whose least cell is not above the cell, else the first
pub record IsEntryFor (leasts : List (List ℕ)) (cell : List ℕ) (at : ℕ) : Type 0 where
  pub within : at < length leasts
  pub not_above : 0 < at → is_below cell (slice_index_or leasts at []) ≡ false
  pub above : suc at < length leasts → is_below cell (slice_index_or leasts (suc at) []) ≡ true
