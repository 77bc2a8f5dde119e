use Rattle.std.proofs.Common.{◌≡◌, false, is_err}
use Rattle.rs_disk.specs.Content.{content_of}
use Rattle.rs_recording_disk.proofs.Steps.{ok_is_written}
use Rattle.rs_recording_disk.proofs.recording.write_or_clear.Goals as goal

pub returns-else-is_err-clause-content : goal.returns-else-is_err-clause-content
returns-else-is_err-clause-content c =
    let is_ok : is_err c.write-outcome.result ≡ false = cc in
    rw (← c.as_slice.ensures.value) (ok_is_written c.write-outcome.result c.args.at c.as_slice.result.now (content_of c.args.disk.now.bytes) (content_of c.write-outcome.new.self.bytes) is_ok c.write-outcome.ensures.written c.write-outcome.ensures.others)
