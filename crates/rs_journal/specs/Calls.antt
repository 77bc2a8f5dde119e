-- What a function that calls the disk leaves as it was, and when it is refused.
use Rattle.std.specs.Prelude.{◌≡◌, true, Result, OnOk, IsOkUnless}
use Rattle.rs_refusal.specs.declared.refusal.Refusal.{Refusal}
use Rattle.rs_refusal.specs.declared.refusal.Refusal.TheVariants.{Disk}
use Rattle.rs_disk.specs.Counts.{Counts}
use Rattle.rs_disk.specs.declared.disk.Disk as disk

module _ {D : Type 0} (d : disk.Ghosts D) where
  -- Whether the disk is honest and whether it keeps the model of crashes stays. A refusal is 91 and one more failure, and
  -- without one there is no failure more.
  pub record CallsDisk {T : Type 0} (result : Result T Refusal) (old new : D) : Type 0 where
    pub honesty : d.is_honest new ≡ d.is_honest old
    pub keeping : d.keeps_crashes new ≡ d.keeps_crashes old
    pub count : Counts result (d.failures old) (d.failures new)
    pub refused : IsOkUnless result Disk

  -- the same, and after Ok the disk is synced
  pub record SyncsDisk {T : Type 0} (result : Result T Refusal) (old new : D) : Type 0 where
    pub honesty : d.is_honest new ≡ d.is_honest old
    pub keeping : d.keeps_crashes new ≡ d.keeps_crashes old
    pub count : Counts result (d.failures old) (d.failures new)
    pub refused : IsOkUnless result Disk
    pub synced : OnOk result (d.is_synced new ≡ true)
