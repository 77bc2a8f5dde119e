-- Which state is kept last, and what a crash leaves of it.
use Rattle.std.specs.Prelude.{◌⊎◌, ℕ, IsTrue}
use Rattle.rs_disk.specs.Content.{Content}
use Rattle.rs_disk.specs.declared.disk.Disk as disk
use Rattle.rs_machine.specs.State.{State}
use Rattle.rs_pager.specs.Lasts.{KeepsMap, Lasts}
use Rattle.rs_pager.specs.Maps.{IsTied, committed}
use Rattle.rs_pager.specs.Paged.{Paged}
use Rattle.rs_pages.specs.PageMap.{PageMap, SamePages}
use Rattle.rs_store.specs.Standing.{Stands, StandWithin}

module _ {D : Type 0} (d : disk.Ghosts D) where
  -- the pages kept last stand for the state
  pub record IsLast (p : Paged D) (state : State) : Type 0 where
    pub pages : PageMap
    pub keeps : KeepsMap d p pages
    pub stand : StandWithin p.limit pages state

  -- what is committed stays so, tied to its disk, and what lasts, lasts
  pub record Endures (old new : Paged D) : Type 0 where
    pub tied : IsTied d old → IsTied d new
    pub committed : IsTied d old → SamePages (committed d new) (committed d old)
    pub lasts : Lasts d old new

  -- The disk still stands for the state. What a crash might have left meanwhile, and what one may leave now, stands for it too, or might
  -- have been left before.
  pub record StaysFileOf (limit : ℕ) (state : State) (old new : D) : Type 0 where
    pub stands : Stands limit (d.seen new) state
    pub meanwhile : IsTrue (d.keeps_crashes old) → (start : D) (image : Content) → d.left_since start new image
        → d.left_since start old image ⊎ (d.may_leave old image ⊎ Stands limit image state)
    pub images : IsTrue (d.keeps_crashes old) → (image : Content) → d.may_leave new image → d.may_leave old image ⊎ Stands limit image state

  -- what a crash might have left meanwhile counted before already, or stands for one of these two states
  abbrev pub LeavesOneOf : ℕ → State → State → D → D → Type 0
  LeavesOneOf limit last state old new = (start : D) (image : Content) → d.left_since start new image
      → d.left_since start old image ⊎ (Stands limit image last ⊎ Stands limit image state)
