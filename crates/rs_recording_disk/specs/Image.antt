-- Three of the images that a crash may leave: what was written and cut since the last sync is all kept, all lost, or all
-- written over.
use Rattle.std.specs.Prelude.{ℕ, ◌+◌, true, false, Bool, List, [], ◌∷◌, length, replicate, reverse, take}
use Rattle.rs_disk.specs.Content.{Content}
use Rattle.rs_recording_disk.specs.Range.{Range}
use Rattle.rs_recording_disk.specs.declared.call.Call.{Call}
use Rattle.rs_recording_disk.specs.declared.call.Call.TheVariants.{Read, Write, Sync, Cut}
use Rattle.rs_recording_disk.specs.declared.image.TheConstants.{FILL}
use Rattle.rs_recording_disk.specs.declared.image.Unsynced.{Unsynced}
use Rattle.rs_recording_disk.specs.declared.image.Unsynced.TheVariants.{Kept, Lost, Filled}
use Rattle.rs_recording_disk.specs.Recorded.{written, content_after, replayed}

-- what is left of a write
abbrev pub left_of_write : Unsynced → Range → Content → Content
left_of_write Kept range image = written range.at range.bytes image
left_of_write Lost range image = image
left_of_write Filled range image =
    written range.at (replicate (length range.bytes + range.unwritten) FILL) image

-- what is left of a cut
abbrev pub left_of_cut : Unsynced → ℕ → Bool → Content → Content
left_of_cut Kept pages is_done image = content_after (Cut pages is_done) image
left_of_cut Lost pages is_done image = image
left_of_cut Filled pages is_done image = content_after (Cut pages is_done) image

-- the image after a call on this content, and the one before it
abbrev pub image_after : Unsynced → Call → Content → Content → Content
image_after unsynced Read content image = image
image_after unsynced (Write range) content image = left_of_write unsynced range image
image_after unsynced (Sync true) content image = content
image_after unsynced (Sync false) content image = image
image_after unsynced (Cut pages is_done) content image = left_of_cut unsynced pages is_done image

-- the image after these calls, the last of them first
abbrev pub image_of : Unsynced → Content → List Call → Content
image_of unsynced start [] = start
image_of unsynced start (call ∷ earlier) =
    image_after unsynced call (replayed start earlier) (image_of unsynced start earlier)

-- the calls up to a moment, the last of them first
abbrev pub past_at : ℕ → List Call → List Call
past_at moment past = reverse (take moment (reverse past))
