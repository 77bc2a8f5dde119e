use Rattle.rs_dump_laws.specs.Kept.{kept_of}
use Rattle.rs_dump.proofs.laws.dumped_lines_rebuild_the_state.Goals as goal

pub returns : goal.returns
returns c = λ state lacks before after dumped lawful readable few old new answers begins answered none.
    let kept = kept_of dumped.keeping state in
    let kept_lawful = c.kept_state_can_be_dumped.ensures.lawful state dumped.keeping lawful dumped.keeps in
    let passes = c.kept_state_can_be_dumped.ensures.passes state dumped.keeping lawful dumped.keeps in
    let said = c.lines_of_a_dump_ask_its_commands.ensures dumped.texts kept dumped.commands kept_lawful dumped.is dumped.lines readable in
    c.lines_of_a_dump_rebuild_the_state.ensures.all dumped.texts kept dumped.commands kept_lawful passes few dumped.is said old new answers begins answered none
