use Rattle.rs_file_meaning.proofs.KeptMeaning.{meant_after, meant_with_records}
use Rattle.rs_file_meaning.proofs.versions.change_keeps_the_meaning_of_earlier_versions.Goals as goal

pub returns-clause-next : goal.returns-clause-next
returns-clause-next c = meant_after

pub returns-clause-records : goal.returns-clause-records
returns-clause-records c = meant_with_records
