use Rattle.rs_dump.proofs.StateDumps.{is_dumped}
use Rattle.rs_dump.proofs.laws.what_is_written_is_a_dump.Goals as goal

pub returns : goal.returns
returns c = λ definitions held shown state lacks before after of wrote.
    is_dumped definitions held shown state of lacks before after wrote c.kept_state_can_be_dumped.ensures.lawful c.listed_parts_are_all.ensures
