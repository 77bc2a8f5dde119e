-- Part by part.
use Rattle.rs_file_parts.proofs.AsItWas.{still_opened}
use Rattle.rs_file_parts.proofs.laws.file_as_it_was_is_of_the_same_contents.Goals as goal

pub returns : goal.returns
returns c = still_opened
