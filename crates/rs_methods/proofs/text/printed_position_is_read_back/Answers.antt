use Rattle.rs_methods.proofs.SaidPosition.{says_printed}
use Rattle.rs_methods.proofs.text.printed_position_is_read_back.Goals as goal

pub returns : goal.returns
returns c = says_printed c.printed_text_is_read_back.ensures c.printed_part_is_read_back.ensures
