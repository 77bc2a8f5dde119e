use Rattle.rs_encodings.proofs.Encoded.{marked_back}
use Rattle.rs_encodings.proofs.laws.text_of_utf16_is_what_was_encoded.Goals as goal

pub returns : goal.returns
returns c = marked_back
