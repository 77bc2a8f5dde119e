use Rattle.rs_file_meaning.proofs.KeptLive.{live_routes, live_table}
use Rattle.rs_file_meaning.proofs.live.live_versions_see_the_same_beside_new_definitions.Goals as goal

pub returns-clause-routes : goal.returns-clause-routes
returns-clause-routes c = live_routes

pub returns-clause-table : goal.returns-clause-table
returns-clause-table c = live_table
