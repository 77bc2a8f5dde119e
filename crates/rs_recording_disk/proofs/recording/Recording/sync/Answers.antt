use Rattle.rs_disk.specs.Crash.{Same}
use Rattle.rs_recording_disk.specs.declared.call.Call.TheVariants.{Sync}
use Rattle.rs_recording_disk.proofs.Steps.{passes_on, is_noted, sync_passes}
use Rattle.rs_recording_disk.proofs.recording.Recording.sync.Goals as goal

pub returns-clause-crash : goal.returns-clause-crash
returns-clause-crash c =
    passes_on Same (Sync _) c.args.self.now _ (is_noted c.self.inside.start.items c.self.inside.calls.items c.make_room.new.calls.items c.note.new.calls.items _ c.args.self.now c.self.view_is c.make_room.ensures.items c.note.ensures) (sync_passes _ c.args.self.now)
