use Rattle.rs_protocol.proofs.Asking.{asks_one_thing}
use Rattle.rs_protocol.proofs.laws.line_asks_one_thing.Goals as goal

pub returns : goal.returns
returns c line first second asks asks' = asks_one_thing c.line_has_one_answer.ensures line first second asks asks'
