-- The three images are among those that a crash may leave.
use Rattle.std.proofs.Common.{◌≡◌, inr, ℕ, ◌+◌, true, false, List, [], ◌∷◌, length, replicate, arith, refl, sym, ap, ◌∙◌, subst, Result, Ok, Err, IfOk}
use Rattle.std.proofs.lemmas.List.{length-replicate}
use Rattle.rs_disk.specs.Content.{Content}
use Rattle.rs_disk.specs.Crash.{Torn}
use Rattle.rs_recording_disk.specs.declared.call.Call.{Call}
use Rattle.rs_recording_disk.specs.declared.call.Call.TheVariants.{Read, Write, Sync, Cut}
use Rattle.rs_recording_disk.specs.declared.image.TheConstants.{FILL}
use Rattle.rs_recording_disk.specs.declared.image.Unsynced.{Unsynced}
use Rattle.rs_recording_disk.specs.declared.image.Unsynced.TheVariants.{Kept, Lost, Filled}
use Rattle.rs_recording_disk.specs.Image.{image_after, image_of}
use Rattle.rs_recording_disk.specs.Recorded.{written, replayed, EndsInZeros, LeavesAfter, Leaves}
use Rattle.rs_recording_disk.specs.Laws.{written_keeps, written_ends, keeps_is_torn, content_is_left, image_ends, kept_reads}
use Rattle.rs_recording_disk.proofs.Steps.{torn_not}

-- a range that is filled
filled_is_torn : (at n : ℕ) (image : Content) → Torn at n image (written at (replicate n FILL) image)
filled_is_torn at n image =
    let keeps = written_keeps at 0 (replicate n FILL) image in
    subst (λ n'. Torn at n' image (written at (replicate n FILL) image)) (omega (arith, length-replicate n FILL)) (keeps_is_torn at (length (replicate n FILL) + 0) image (written at (replicate n FILL) image) keeps)

image_after_is_left : (unsynced : Unsynced) (call : Call) (content image : Content) (before : Content → Type 0) → before image → EndsInZeros image → LeavesAfter call content before (image_after unsynced call content image)
image_after_is_left unsynced Read content image before was ends = was
image_after_is_left Kept (Write range) content image before was ends =
    content_is_left (Write range) image before was ends
image_after_is_left Lost (Write range) content image before was ends = (
  record {
    source = image;
    was_left = was;
    steps = torn_not range.at (length range.bytes + range.unwritten) image;
  },
  ends,
)
image_after_is_left Filled (Write range) content image before was ends =
    let n = length range.bytes + range.unwritten in (
      record {
        source = image;
        was_left = was;
        steps = filled_is_torn range.at n image;
      },
      written_ends range.at (replicate n FILL) image ends,
    )
image_after_is_left unsynced (Sync true) content image before was ends = refl
image_after_is_left unsynced (Sync false) content image before was ends = was
image_after_is_left Kept (Cut pages is_done) content image before was ends =
    content_is_left (Cut pages is_done) image before was ends
image_after_is_left Lost (Cut pages is_done) content image before was ends =
    (record { source = image; was_left = was; steps = inr refl }, ends)
image_after_is_left Filled (Cut pages is_done) content image before was ends =
    content_is_left (Cut pages is_done) image before was ends

pub image_is_left : (unsynced : Unsynced) (start : Content) (past : List Call) → EndsInZeros start → Leaves start past (image_of unsynced start past)
image_is_left unsynced start [] ends = refl
image_is_left unsynced start (call ∷ earlier) ends =
    let was = image_is_left unsynced start earlier ends in
    image_after_is_left unsynced call (replayed start earlier) (image_of unsynced start earlier) (Leaves start earlier) was (image_ends start earlier ends (image_of unsynced start earlier) was)

pub if_ok_is_left : {T E : Type 0} (content : T → Content) (result : Result T E) (unsynced : Unsynced) (start : Content) (past : List Call) → EndsInZeros start → IfOk result (λ x. content x ≡ image_of unsynced start past) → IfOk result (λ x. Leaves start past (content x))
if_ok_is_left content (Ok x) unsynced start past ends is_image =
    subst (Leaves start past) (sym is_image) (image_is_left unsynced start past ends)
if_ok_is_left content (Err _) unsynced start past ends is_image = is_image

pub if_ok_is_kept : {T E : Type 0} (content : T → Content) (result : Result T E) (unsynced : Unsynced) (start : Content) (past : List Call) → unsynced ≡ Kept → IfOk result (λ x. content x ≡ image_of unsynced start past) → IfOk result (λ x. content x ≡ replayed start past)
if_ok_is_kept content (Ok x) unsynced start past kept is_image =
    is_image ∙ ap (λ way. image_of way start past) kept ∙ kept_reads start past
if_ok_is_kept content (Err _) unsynced start past kept is_image = is_image
