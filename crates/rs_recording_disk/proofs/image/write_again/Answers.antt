use Rattle.rs_disk.specs.Content.{content_of}
use Rattle.rs_recording_disk.proofs.Steps.{if_ok_is_written}
use Rattle.rs_recording_disk.proofs.image.write_again.Goals as goal

pub returns : goal.returns
returns c =
    if_ok_is_written c.write.result c.map_err.result c.args.at c.args.bytes.now (content_of c.args.disk.now.bytes) (content_of c.write.new.self.bytes) c.map_err.ensures.variant c.write.ensures.written c.write.ensures.others
