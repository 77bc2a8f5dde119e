use Rattle.std.proofs.Common.{refl}
use Rattle.rs_total.proofs.Adding.{tally-none}
use Rattle.rs_total.proofs.totals.Totals.new.Goals as goal

pub returns : goal.returns
returns c = tally-none c.args.by.items c.args.summed _ refl refl refl c.new.ensures.empty
