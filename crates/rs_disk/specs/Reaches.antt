-- What several calls of a disk do together, to what a read gives and to what a crash may leave.
use Rattle.std.specs.Prelude.{◌≡◌, ◌⊎◌, ℕ, ◌<◌, ◌≤◌, IsTrue}
use Rattle.rs_disk.specs.Content.{Content}
use Rattle.rs_disk.specs.Crash.{Passes}
use Rattle.rs_disk.specs.declared.disk.Disk as disk

-- the offset lies before this one or from that one on
abbrev pub IsOutside : ℕ → ℕ → ℕ → Type 0
IsOutside from to i = (i < from) ⊎ (to ≤ i)

-- the bytes at these offsets stay as far as there were any, and nothing is cut off
pub record KeepsWhere (stays : ℕ → Type 0) (old new : Content) : Type 0 where
  pub bytes : (i : ℕ) → i < old.size → stays i → new.byte i ≡ old.byte i
  pub no_shorter : old.size ≤ new.size

module _ {D : Type 0} (d : disk.Ghosts D) where
  -- by this step come what a read gives, and each image that a crash may leave or might have left meanwhile
  pub record Reaches (step : Content → Content → Type 0) (old new : D) : Type 0 where
    pub honesty : d.is_honest new ≡ d.is_honest old
    pub keeping : d.keeps_crashes new ≡ d.keeps_crashes old
    pub reads : IsTrue (d.is_honest old) → step (d.seen old) (d.seen new)
    pub images : IsTrue (d.keeps_crashes old) → Passes d.may_leave d.left_since step old new

  -- what a crash might have left since the first is one of these images, or counted before it already
  pub record Through (is_left : Content → Type 0) (old new : D) : Type 0 where
    pub each : (start : D) (image : Content) → d.left_since start new image
        → d.left_since start old image ⊎ is_left image
