use Rattle.rs_facts.proofs.OperatorRows.{covered-both, covered-before, covered-after}
use Rattle.rs_facts.proofs.operator_laws.covered_rows_are_those.Goals as goal

pub returns-clause-both : goal.returns-clause-both
returns-clause-both c = covered-both

pub returns-clause-second_alone : goal.returns-clause-second_alone
returns-clause-second_alone c = covered-before

pub returns-clause-first_alone : goal.returns-clause-first_alone
returns-clause-first_alone c = covered-after
