use Rattle.rs_machine_laws.proofs.PositionTokens.{said}
use Rattle.rs_machine_laws.proofs.positions.tokens_say_what_the_text_says.Goals as goal

pub returns : goal.returns
returns c = said
