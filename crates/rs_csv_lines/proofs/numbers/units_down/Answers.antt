use Rattle.std.proofs.Common.{◌≡◌, ◌∙◌, ◌≤◌, ◌*◌, ◌++◌, ap, sym, subst, length}
use Rattle.rs_measure.specs.FixedPoint.{number_from, number_of_digits}
use Rattle.rs_csv_lines.specs.Numbers.{AreUnits}
use Rattle.rs_csv_lines.proofs.Units.{power_few, down, number_from_append, product_fits}
use Rattle.rs_csv_lines.proofs.numbers.units_down.Goals as goal

pub overflow_mul-units : goal.overflow_mul-units
overflow_mul-units c =
    product_fits c.in_ok-number.number c.pow.result c.args.greatest c.in_ok-number.ensures.in_range c.requires.few
    (subst (λ p. p ≤ 1000000) (sym c.pow.ensures) (power_few c.args.places (length c.args.kept.now) c.requires.few_places))

pub returns-clause-units : goal.returns-clause-units
returns-clause-units c =
    let whole = c.args.whole.now in
    let kept = c.args.kept.now in
    let number : c.in_ok-number.number ≡ number_of_digits (whole ++ kept) =
    c.in_ok-number.ensures.value ∙ ap (λ n. number_from n kept) c.in_ok-before.ensures.value ∙ sym (number_from_append 0 whole kept) in
    subst (λ p. AreUnits c.args.places whole kept (c.in_ok-number.number * p)) (sym c.pow.ensures) (down c.args.places c.in_ok-number.number whole kept c.requires.few_kept number)
