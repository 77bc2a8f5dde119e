-- Each part is one.
use Rattle.rs_file.proofs.One.{one_thing}
use Rattle.rs_file.proofs.laws.file_holds_one_thing.Goals as goal

pub returns : goal.returns
returns c = one_thing
