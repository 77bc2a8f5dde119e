-- The pages of all else are kept.
use Rattle.rs_file.proofs.Parts.{definitions_changed, definitions_leave_directory}
use Rattle.rs_file.proofs.laws.changed_definitions_leave_all_else.Goals as goal

pub returns-clause-parts : goal.returns-clause-parts
returns-clause-parts c = λ old new from to contents pages bytes definitions later parts says stores. definitions_changed old from contents parts new to later pages bytes definitions says stores

pub returns-clause-directory : goal.returns-clause-directory
returns-clause-directory c = λ old new accepted contents pages bytes parts stores. definitions_leave_directory old accepted contents parts new pages bytes stores
