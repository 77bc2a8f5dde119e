use Rattle.std.proofs.Common.{◌≡◌, ◌+◌, length, rules, ◌∙◌}
use Rattle.rs_disk.specs.Crash.{Torn}
use Rattle.rs_recording_disk.specs.declared.call.Call.TheVariants.{Write}
use Rattle.rs_recording_disk.proofs.Steps.{torn_not, passes_by, is_unnoted, is_noted, noted_holds, noted_keeps, on_ok_map}
use Rattle.rs_recording_disk.proofs.recording.Recording.write_part.Goals as goal

pub returns-in_err-make_room-clause-crash : goal.returns-in_err-make_room-clause-crash
returns-in_err-make_room-clause-crash c =
    let n = length c.args.part.now + c.args.unwritten in
    passes_by (Torn c.args.at n) (torn_not c.args.at n) c.args.self.now _ (is_unnoted c.self.inside.start.items c.self.inside.calls.items c.make_room.new.calls.items c.args.self.now c.self.view_is c.make_room.ensures.items)

pub returns-clause-written : goal.returns-clause-written
returns-clause-written c =
    let noted = is_noted c.self.inside.start.items c.self.inside.calls.items c.make_room.new.calls.items c.note.new.calls.items (Write c.new-range.result) c.args.self.now c.self.view_is c.make_room.ensures.items c.note.ensures in
    let copied : c.in_ok-kept.kept.items ≡ c.args.part.now = search rules in
    on_ok_map c.write_or_clear-outcome.result (λ whole. noted_holds c.args.at _ _ _ c.new-range.result c.args.self.now _ noted c.new-range.ensures (whole ∙ copied)) c.write_or_clear-outcome.ensures.kept

pub returns-clause-others : goal.returns-clause-others
returns-clause-others c =
    let noted = is_noted c.self.inside.start.items c.self.inside.calls.items c.make_room.new.calls.items c.note.new.calls.items (Write c.new-range.result) c.args.self.now c.self.view_is c.make_room.ensures.items c.note.ensures in
    noted_keeps c.args.at _ (length c.args.part.now + c.args.unwritten) _ c.new-range.result c.args.self.now _ noted c.new-range.ensures (search rules)
