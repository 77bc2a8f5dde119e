use Rattle.rs_dump_lines.proofs.AllLines.{all_said}
use Rattle.rs_dump_lines.proofs.asking.lines_of_a_dump_ask_its_commands.Goals as goal

pub returns : goal.returns
returns c = λ texts state commands lawful dump lines readable.
    all_said c.shortest_line_defines_the_view.ensures.line texts state commands (c.commands_of_a_dump_are_sound.ensures texts state commands lawful dump) dump lines readable
