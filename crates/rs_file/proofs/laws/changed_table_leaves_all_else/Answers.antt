-- The pages of all else are kept.
use Rattle.rs_file.proofs.Parts.{table_changed, table_leaves_directory}
use Rattle.rs_file.proofs.laws.changed_table_leaves_all_else.Goals as goal

pub returns-clause-parts : goal.returns-clause-parts
returns-clause-parts c = λ old new from to contents before after table now are later parts lies moves. table_changed old from contents parts new to later before after table now are lies moves

pub returns-clause-directory : goal.returns-clause-directory
returns-clause-directory c = λ old new accepted contents before after table used are parts moves. table_leaves_directory old accepted contents parts new before after table used are moves
