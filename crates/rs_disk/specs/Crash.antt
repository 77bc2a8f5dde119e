-- What a crash may leave of a disk. An image is the content that the disk has when it runs again.
use Rattle.std.specs.Prelude.{◌≡◌, ◌⊎◌, ℕ, ◌+◌, ◌<◌, ◌≤◌, max}
use Rattle.rs_disk.specs.Content.{Content, IsCutTo}

-- Each step is from an image before a call to one that a crash during it, or after it, may leave.

-- a read or a sync changes nothing
abbrev pub Same : Content → Content → Type 0
Same old new = new ≡ old

-- A write of n bytes may hold any bytes in its range and past the old end, be it done, in part or not at all. The
-- other bytes stay. A write of no bytes changes nothing.
pub record Torn (at n : ℕ) (old new : Content) : Type 0 where
  pub before : (i : ℕ) → i < old.size → i < at → new.byte i ≡ old.byte i
  pub after : (i : ℕ) → i < old.size → at + n ≤ i → new.byte i ≡ old.byte i
  pub no_shorter : old.size ≤ new.size
  pub no_longer : new.size ≤ max old.size (at + n)
  pub nothing : n ≡ 0 → new.size ≡ old.size

-- a cut is kept or lost, and never done in part
abbrev pub CutOrNot : ℕ → Content → Content → Type 0
CutOrNot bound old new = IsCutTo bound old new ⊎ (new ≡ old)

-- the image comes by this step from one of those before
pub record Follows (before : Content → Type 0) (step : Content → Content → Type 0)
    (image : Content) : Type 0 where
  pub source : Content
  pub was_left : before source
  pub steps : step source image

-- What a call does to the images, whatever it answers: what a crash may leave after it, or might have left during it,
-- follows from what a crash might have left before it; and what counted since any start goes on to count.
pub record Passes {D : Type 0} (may_leave : D → Content → Type 0)
    (left_since : D → D → Content → Type 0) (step : Content → Content → Type 0)
    (old new : D) : Type 0 where
  pub now : (image : Content) → may_leave new image → Follows (may_leave old) step image
  pub meanwhile : (start : D) (image : Content) → left_since start new image
      → left_since start old image ⊎ Follows (may_leave old) step image
  pub earlier : (start : D) (image : Content) → left_since start old image
      → left_since start new image

-- a crash leaves this content alone
abbrev pub Only : Content → (Content → Type 0) → Type 0
Only content images = (image : Content) → images image → image ≡ content
