-- What a disk holds after the calls that were recorded of it, and what a crash may leave.
use Rattle.std.specs.Prelude.{Result, OnOk, OnErr, IsErr, ◌≡◌, ◌⊎◌, ℕ, ◌+◌, ◌-◌, ◌*◌, ◌/◌, ◌≤◌, min, max, Bool, true, false, List, [], ◌∷◌, length, take, slice_index, if◌then◌else◌, nat_lt, nat_le, ◌&&◌}
use Rattle.rs_page.specs.declared.page.TheConstants.{PAGE_SIZE}
use Rattle.rs_disk.specs.declared.failing.FailedCut.{FailedCut}
use Rattle.rs_disk.specs.declared.failing.FailedCut.TheVariants.{Done, NotDone}
use Rattle.rs_disk.specs.Calls.{Calls}
use Rattle.rs_disk.specs.Content.{Content, content_of}
use Rattle.rs_disk.specs.Crash.{Torn, CutOrNot, Follows}
use Rattle.rs_recording_disk.specs.declared.call.Call.{Call}
use Rattle.rs_recording_disk.specs.declared.call.Call.TheVariants.{Read, Write, Sync, Cut}

-- the content with these bytes at an offset, and zeros before them where it was shorter
abbrev pub written : ℕ → List ℕ → Content → Content
written at [] content = content
written at (b ∷ bs) content = record {
  size = max content.size (at + length (b ∷ bs));
  byte = λ i. if nat_le at i && nat_lt i (at + length (b ∷ bs)) then slice_index (b ∷ bs) (i - at) else content.byte i;
}

-- the content up to this length
abbrev pub cut_to : ℕ → Content → Content
cut_to bound content = record {
  size = min content.size bound;
  byte = λ i. if nat_lt i bound then content.byte i else 0;
}

-- the content after a call
abbrev pub content_after : Call → Content → Content
content_after Read content = content
content_after (Write range) content = written range.at range.bytes content
content_after (Sync is_done) content = content
content_after (Cut pages is_done) content = if is_done then cut_to (PAGE_SIZE * pages) content else content

-- the content after these calls, the last of them first
abbrev pub replayed : Content → List Call → Content
replayed start [] = start
replayed start (call ∷ earlier) = content_after call (replayed start earlier)

-- past its end an image is zeros
pub record EndsInZeros (image : Content) : Type 0 where
  pub zeros : (i : ℕ) → image.size ≤ i → image.byte i ≡ 0

-- what a crash may leave after a call on this content, where it might have left the images `before`
abbrev pub LeavesAfter : Call → Content → (Content → Type 0) → Content → Type 0
LeavesAfter Read content before image = before image
LeavesAfter (Write range) content before image =
    Follows before (Torn range.at (length range.bytes + range.unwritten)) image × EndsInZeros image
LeavesAfter (Sync true) content before image = image ≡ content
LeavesAfter (Sync false) content before image = before image
LeavesAfter (Cut pages is_done) content before image =
    Follows before (CutOrNot (PAGE_SIZE * pages)) image × EndsInZeros image

-- what a crash may leave after these calls, the last of them first
abbrev pub Leaves : Content → List Call → Content → Type 0
Leaves start [] image = image ≡ start
Leaves start (call ∷ earlier) image =
    LeavesAfter call (replayed start earlier) (Leaves start earlier) image

-- what a crash might have left after some of the calls, the first `began` at the least
abbrev pub LeftAfter : ℕ → Content → List Call → Content → Type 0
LeftAfter began start [] image = (began ≤ 0) × Leaves start [] image
LeftAfter began start (call ∷ earlier) image =
    ((began ≤ length (call ∷ earlier)) × Leaves start (call ∷ earlier) image) ⊎ LeftAfter began start earlier image

-- the bytes at first, and the calls since, the last of them first
pub record Recorded : Type 0 where
  pub start : List ℕ
  pub past : List Call

-- with one more call
abbrev pub with_call : Call → Recorded → Recorded
with_call call recorded = record { start = recorded.start; past = call ∷ recorded.past }

-- what a disk is known by: its record, the calls left up to the one that fails, how its cut fails, and its calls so far
pub record RecordedDisk : Type 0 where
  pub recorded : Recorded
  pub calls_left : ℕ
  pub failed_cut : FailedCut
  pub calls : Calls

-- the content now
abbrev pub content_now : Recorded → Content
content_now recorded = replayed (content_of recorded.start) recorded.past

-- what a crash now may leave
abbrev pub LeavesNow : Recorded → Content → Type 0
LeavesNow recorded = Leaves (content_of recorded.start) recorded.past

-- what a crash might have left since the first of these
abbrev pub LeftSince : Recorded → Recorded → Content → Type 0
LeftSince from recorded = LeftAfter (length from.past) (content_of recorded.start) recorded.past

-- a call that succeeded is recorded as it was asked
abbrev pub Records : {T E : Type 0} → Result T E → Call → RecordedDisk → RecordedDisk → Type 0
Records result call old new = OnOk result (new.recorded ≡ with_call call old.recorded)

-- whether a cut that is to fail is done
abbrev pub is_cut : FailedCut → Bool
is_cut Done = true
is_cut NotDone = false

-- the first bytes of a write of these, and how many more it was of
abbrev pub first_bytes : ℕ → ℕ → List ℕ → Call
first_bytes many at bytes = Write (record { at = at; bytes = take many bytes; unwritten = length bytes - many })

-- A call that failed was not recorded, and nothing changed; or it was its turn to fail, and it is recorded so.
abbrev pub RecordsFailed : {T E : Type 0} → Result T E → Type 0 → Call → Recorded → Recorded → Type 0
RecordsFailed result is_turn call old new = OnErr result ((new ≡ old) ⊎ (is_turn × (new ≡ with_call call old)))

-- A write that failed may be recorded as one of which nothing was written; in its turn half of it was.
abbrev pub RecordsFailedWrite : {T E : Type 0} → Result T E → Type 0 → ℕ → List ℕ → Recorded → Recorded → Type 0
RecordsFailedWrite result is_turn at bytes old new = OnErr result ((new ≡ old)
    ⊎ ((new ≡ with_call (first_bytes 0 at bytes) old)
    ⊎ (is_turn × (new ≡ with_call (first_bytes (length bytes / 2) at bytes) old))))

-- the last of the calls left fails
pub record FailsInTurn {T E : Type 0} (result : Result T E) (old new : RecordedDisk) : Type 0 where
  pub fails : old.calls_left ≡ 1 → IsErr result
  pub left : new.calls_left ≡ old.calls_left - 1
  pub cut : new.failed_cut ≡ old.failed_cut
