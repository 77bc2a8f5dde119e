use Rattle.std.proofs.Common.{◌≡◌, IfOk, rules}
use Rattle.std.proofs.lemmas.Grind.{common_steps}
use Rattle.rs_disk.specs.Content.{content_of}
use Rattle.rs_recording_disk.specs.Image.{image_of, past_at}
use Rattle.rs_recording_disk.specs.Laws.{start_ends}
use Rattle.rs_recording_disk.proofs.Images.{if_ok_is_kept, if_ok_is_left}
use Rattle.rs_recording_disk.proofs.recording.Recording.image.Goals as goal

pub returns-clause-left : goal.returns-clause-left
returns-clause-left c =
    let recorded = c.args.self.now in
    let image : IfOk c.left_by.result (λ bytes. content_of bytes.items ≡ image_of c.args.unsynced (content_of recorded.start) (past_at c.args.moment recorded.past)) = grind (rules, common_steps) in
    if_ok_is_left (λ bytes. content_of bytes.items) c.left_by.result c.args.unsynced (content_of recorded.start) (past_at c.args.moment recorded.past) (start_ends recorded.start) image

pub returns-clause-kept : goal.returns-clause-kept
returns-clause-kept c = λ kept.
    let recorded = c.args.self.now in
    let image : IfOk c.left_by.result (λ bytes. content_of bytes.items ≡ image_of c.args.unsynced (content_of recorded.start) (past_at c.args.moment recorded.past)) = grind (rules, common_steps) in
    if_ok_is_kept (λ bytes. content_of bytes.items) c.left_by.result c.args.unsynced (content_of recorded.start) (past_at c.args.moment recorded.past) kept image
