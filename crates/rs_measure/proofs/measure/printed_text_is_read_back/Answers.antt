use Rattle.rs_measure.proofs.MeasureText.{says_measure_text}
use Rattle.rs_measure.proofs.measure.printed_text_is_read_back.Goals as goal

pub returns : goal.returns
returns c = says_measure_text
