-- The sum of all pages, in another order.
use Rattle.rs_file.proofs.Parts.{shares_definitions, shares_referents, shares_table}
use Rattle.rs_file.proofs.laws.each_part_has_its_pages.Goals as goal

pub returns-clause-table : goal.returns-clause-table
returns-clause-table c = λ file accepted contents before after table are parts. shares_table file accepted contents parts before after table are

pub returns-clause-referents : goal.returns-clause-referents
returns-clause-referents c = shares_referents

pub returns-clause-definitions : goal.returns-clause-definitions
returns-clause-definitions c = shares_definitions
