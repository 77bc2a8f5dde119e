use Rattle.rs_file_meaning.proofs.KeptLive.{live_directory, live_fewer, live_joined, live_none, live_records, records_referents, records_table}
use Rattle.rs_file_meaning.proofs.live.live_versions_see_the_same.Goals as goal

pub returns-clause-joined : goal.returns-clause-joined
returns-clause-joined c = live_joined

pub returns-clause-fewer : goal.returns-clause-fewer
returns-clause-fewer c = live_fewer

pub returns-clause-none : goal.returns-clause-none
returns-clause-none c = live_none

pub returns-clause-directory : goal.returns-clause-directory
returns-clause-directory c = live_directory

pub returns-clause-records : goal.returns-clause-records
returns-clause-records c = live_records

pub returns-clause-table : goal.returns-clause-table
returns-clause-table c = records_table

pub returns-clause-referents : goal.returns-clause-referents
returns-clause-referents c = records_referents
