use Rattle.rs_change_laws.proofs.Completed.{one_in_memory}
use Rattle.rs_change_laws.proofs.completing.file_stands_for_the_state_in_memory.Goals as goal

pub returns : goal.returns
returns c = one_in_memory c.contents_have_one_state.ensures.one
