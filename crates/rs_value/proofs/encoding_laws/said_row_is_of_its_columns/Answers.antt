use Rattle.rs_value.proofs.EncodingLaws.{said_typed}
use Rattle.rs_value.proofs.encoding_laws.said_row_is_of_its_columns.Goals as goal

pub returns : goal.returns
returns c = said_typed
