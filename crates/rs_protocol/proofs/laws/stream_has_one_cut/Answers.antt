use Rattle.rs_protocol.proofs.Cuts.{IsCutIntoLines-one}
use Rattle.rs_protocol.proofs.laws.stream_has_one_cut.Goals as goal

pub returns : goal.returns
returns c bytes lines others rest other cut cut' = IsCutIntoLines-one bytes lines others rest other cut cut'
