use Rattle.rs_measure.proofs.FixedPoint.{decimals_in_range}
use Rattle.rs_measure.proofs.fixed_point.decimal_units.Goals as goal

pub returns-clause-in_range : goal.returns-clause-in_range
returns-clause-in_range c = rw c.pow.ensures (rw c.from.ensures (decimals_in_range c.args.places c.in_ok-number.number c.args.digits.now c.in_ok-number.ensures.digits c.in_ok-number.ensures.value))
