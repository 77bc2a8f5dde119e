use Rattle.std.proofs.Common.{◌≡◌, reverse, take}
use Rattle.rs_disk.specs.Content.{content_of}
use Rattle.rs_recording_disk.specs.Image.{image_of}
use Rattle.rs_recording_disk.specs.Recorded.{replayed}
use Rattle.rs_recording_disk.proofs.image.left_by.Given as goal

abbrev pub invariant-loop-call : goal.invariant-loop-call
invariant-loop-call l = record {
  content : content_of l.content.bytes ≡ replayed (content_of l.start) (reverse (take l.call-index l.calls));
  image : content_of l.image.bytes ≡ image_of l.unsynced (content_of l.start) (reverse (take l.call-index l.calls));
}
