-- What is known of a `FailingDisk`.
use Rattle.std.specs.Prelude.{◌≡◌, ◌≢◌, ℕ, ◌-◌, Result, IsErr}
use Rattle.rs_disk.specs.declared.failing.FailedCut.{FailedCut}
use Rattle.rs_disk.specs.Calls.{Calls}
use Rattle.rs_disk.specs.Counts.{Counts}

-- the disk below, the calls left up to the one that fails, how its cut fails, and its own calls so far
pub record Failing (D : Type 0) : Type 0 where
  pub disk : D
  pub calls_left : ℕ
  pub failed_cut : FailedCut
  pub calls : Calls

-- the last of the calls left fails, and each other call fails where the disk below counts a failure
pub record FailsInTurn {T E D : Type 0} (failures : D → ℕ)
    (result : Result T E) (old new : Failing D) : Type 0 where
  pub fails : old.calls_left ≡ 1 → IsErr result
  pub passed_on : old.calls_left ≢ 1 → Counts result (failures old.disk) (failures new.disk)
  pub left : new.calls_left ≡ old.calls_left - 1
  pub cut : new.failed_cut ≡ old.failed_cut
