use Rattle.rs_dump_lines.proofs.MeasureTexts.{measure_text_is}
use Rattle.rs_dump_lines.proofs.measures.shortest_text_says_the_measure.Goals as goal

pub returns : goal.returns
returns c = λ k few. (measure_text_is k few).says
