use Rattle.rs_dump.proofs.NothingLacks.{nothing_lacks, passes_where_nothing_lacks}
use Rattle.rs_dump.proofs.laws.state_that_passes_is_dumped_whole.Goals as goal

pub returns-clause-whole : goal.returns-clause-whole
returns-clause-whole c = λ definitions held shown state omits_rows lacks before after of wrote can.
    nothing_lacks definitions held shown state omits_rows lacks before after c.lawful_state_has_a_dump.ensures of wrote can

pub returns-clause-only : goal.returns-clause-only
returns-clause-only c = λ definitions held shown state omits_rows lacks before after of wrote none.
    passes_where_nothing_lacks definitions held shown state omits_rows lacks before after of wrote none
