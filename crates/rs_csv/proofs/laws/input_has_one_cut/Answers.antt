use Rattle.std.proofs.Common.{◌∙◌, sym}
use Rattle.rs_csv.proofs.OneCut.{one_cut}
use Rattle.rs_csv.proofs.laws.input_has_one_cut.Goals as goal

pub returns : goal.returns
returns c separator input raws others rest other cut cut' = one_cut separator raws others rest other cut.each cut'.each cut.begun cut'.begun (sym cut.whole ∙ cut'.whole)
