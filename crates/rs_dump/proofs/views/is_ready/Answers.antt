-- What the query names that is not there.
use Rattle.rs_dump.specs.Views.{names_a_view, names_an_alignment}
use Rattle.rs_dump.proofs.views.is_ready.Goals as goal

pub returns-then-names_one_of-clause-lacks : goal.returns-then-names_one_of-clause-lacks
returns-then-names_one_of-clause-lacks c = λ is.
    let one = c.names_one_of.ensures.named c.if-names_one_of.true in names_an_alignment one.other one.among one.named

pub returns-clause-lacks : goal.returns-clause-lacks
returns-clause-lacks c = λ is.
    let one = c.names_written.ensures.unwritten is in names_a_view one.other one.there one.named one.missing
