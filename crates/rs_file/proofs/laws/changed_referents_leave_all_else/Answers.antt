-- The pages of all else are kept.
use Rattle.rs_file.proofs.Parts.{referents_changed, referents_leave_directory}
use Rattle.rs_file.proofs.laws.changed_referents_leave_all_else.Goals as goal

pub returns-clause-parts : goal.returns-clause-parts
returns-clause-parts c = λ old new from to contents now later parts holds moves. referents_changed old from contents parts new to later now holds moves

pub returns-clause-directory : goal.returns-clause-directory
returns-clause-directory c = λ old new accepted contents used parts moves. referents_leave_directory old accepted contents parts new used moves
