use Rattle.std.proofs.Common.{rules}
use Rattle.rs_answers.specs.Printed.{place_on}
use Rattle.rs_answers.proofs.printer.place_on.Goals as goal

pub returns-clause-nearest : goal.returns-clause-nearest
unfolding place_on
returns-clause-nearest c = search rules
