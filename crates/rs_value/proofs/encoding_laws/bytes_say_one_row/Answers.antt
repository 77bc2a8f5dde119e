use Rattle.rs_value.proofs.EncodingLaws.{row_said_once}
use Rattle.rs_value.proofs.encoding_laws.bytes_say_one_row.Goals as goal

pub returns : goal.returns
returns c = row_said_once
