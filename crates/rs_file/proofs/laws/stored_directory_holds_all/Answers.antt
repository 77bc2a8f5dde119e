-- The directory is there, and all else stays.
use Rattle.rs_file.proofs.Parts.{directory_stored}
use Rattle.rs_file.proofs.laws.stored_directory_holds_all.Goals as goal

pub returns : goal.returns
returns c = λ old new from contents was now later has parts stores said limit routes. directory_stored old from contents parts new was now later has stores said limit routes
