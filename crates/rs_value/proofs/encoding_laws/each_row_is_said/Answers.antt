use Rattle.rs_value.proofs.EncodingLaws.{row_said}
use Rattle.rs_value.proofs.encoding_laws.each_row_is_said.Goals as goal

pub returns : goal.returns
returns c = row_said
