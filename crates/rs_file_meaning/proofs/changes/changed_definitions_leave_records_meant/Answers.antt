use Rattle.rs_file_meaning.proofs.Changed.{meant_with_routes, meant_with_table, meant_without_table}
use Rattle.rs_file_meaning.proofs.changes.changed_definitions_leave_records_meant.Goals as goal

pub returns-clause-routes : goal.returns-clause-routes
returns-clause-routes c = meant_with_routes

pub returns-clause-table_comes : goal.returns-clause-table_comes
returns-clause-table_comes c = meant_with_table

pub returns-clause-table_goes : goal.returns-clause-table_goes
returns-clause-table_goes c = meant_without_table
