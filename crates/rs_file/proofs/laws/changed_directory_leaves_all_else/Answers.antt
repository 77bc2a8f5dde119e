-- No page but the directory's is written.
use Rattle.rs_file.proofs.Parts.{directory_changed}
use Rattle.rs_file.proofs.laws.changed_directory_leaves_all_else.Goals as goal

pub returns : goal.returns
returns c = λ old new from to contents was now later has parts stores. directory_changed old from contents parts new to later was now has stores
