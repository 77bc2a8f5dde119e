-- Nothing is below no bytes.
use Rattle.std.proofs.Common.{rules}
use Rattle.rs_cell_versions.proofs.Looks.{passed_none}
use Rattle.rs_cell_versions.proofs.opening.Opening.begin.Goals as goal

pub returns-clause-begun : goal.returns-clause-begun
returns-clause-begun g c = record {
  told = search rules;
  low = search rules;
  passed = λ pages. passed_none _ pages _ (search rules) (search rules) (search rules) (search rules);
}
