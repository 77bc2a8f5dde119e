use Rattle.rs_answers.proofs.PresentLines.{lines-present, plan-lies}
use Rattle.rs_answers.proofs.laws.present_version_has_the_lines_of_the_query.Goals as goal

pub returns-clause-lines : goal.returns-clause-lines
returns-clause-lines c = λ definitions referents state seen has present query plan for method. lines-present definitions referents state c.rows_lie_on_routes.ensures seen has present query plan for method

pub returns-clause-lies : goal.returns-clause-lies
returns-clause-lies c = λ definitions referents state seen has present query plan for. plan-lies definitions referents state c.rows_lie_on_routes.ensures seen has present query plan for
