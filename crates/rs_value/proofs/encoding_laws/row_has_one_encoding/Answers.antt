use Rattle.rs_value.proofs.EncodingLaws.{bytes_once}
use Rattle.rs_value.proofs.encoding_laws.row_has_one_encoding.Goals as goal

pub returns : goal.returns
returns c = bytes_once
