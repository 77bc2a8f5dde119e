use Rattle.rs_file_meaning.proofs.KeptMeaning.{meant_next}
use Rattle.rs_file_meaning.proofs.versions.next_version_is_meant_as_the_present_one.Goals as goal

pub returns : goal.returns
returns c = meant_next
