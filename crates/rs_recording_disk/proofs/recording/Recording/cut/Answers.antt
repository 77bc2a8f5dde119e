use Rattle.std.proofs.Common.{◌*◌, inr, refl}
use Rattle.rs_page.specs.declared.page.TheConstants.{PAGE_SIZE}
use Rattle.rs_disk.specs.Crash.{CutOrNot}
use Rattle.rs_recording_disk.proofs.Steps.{passes_by, is_unnoted}
use Rattle.rs_recording_disk.proofs.recording.Recording.cut.Goals as goal

pub returns-in_err-make_room-clause-crash : goal.returns-in_err-make_room-clause-crash
returns-in_err-make_room-clause-crash c =
    passes_by (CutOrNot (PAGE_SIZE * c.args.pages)) (λ _. inr refl) c.args.self.now _ (is_unnoted c.self.inside.start.items c.self.inside.calls.items c.make_room.new.calls.items c.args.self.now c.self.view_is c.make_room.ensures.items)
