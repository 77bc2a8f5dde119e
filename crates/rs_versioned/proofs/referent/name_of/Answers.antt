-- It ends where the first zero is.
use Rattle.std.proofs.Common.{◌∙◌, ap, ℕ, take, drop}
use Rattle.rs_versioned.proofs.ReferentCells.{name_there}
use Rattle.rs_versioned.proofs.referent.name_of.Goals as goal

pub returns : goal.returns
returns c referent says = ap (λ (n : ℕ). take n (take 32 (drop 4 c.args.cell.now))) c.length_before_zero.ensures ∙ name_there c.args.cell.now referent says
