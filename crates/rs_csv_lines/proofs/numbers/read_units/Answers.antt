use Rattle.std.proofs.Common.{◌∙◌, true, sym, subst}
use Rattle.rs_measure.specs.FixedPoint.{AreDigits}
use Rattle.rs_csv_lines.specs.Numbers.{AreReadUnits}
use Rattle.rs_csv_lines.proofs.Units.{are_kept, digits_after, exact_units, exactly_read, nearest_units}
use Rattle.rs_csv_lines.proofs.numbers.read_units.Goals as goal

pub rest_of-requires : goal.rest_of-requires
rest_of-requires c = digits_after c.split_at.result.0.now c.split_at.result.1.now (subst AreDigits c.split_at.ensures.by_index.0 c.requires.decimal_digits)

pub returns-in-Nothing-clause-units : goal.returns-in-Nothing-clause-units
returns-in-Nothing-clause-units c =
    let whole = c.args.number.now.whole.now in
    let kept = c.split_at.result.0.now in
    let rest = c.split_at.result.1.now in
    subst (λ ds. AreReadUnits c.args.rounds c.args.places whole ds c.in-Some.low) (sym c.split_at.ensures.by_index.0)
    (exactly_read c.args.rounds c.args.places c.in-Some.low whole _ (exact_units c.args.places c.in-Some.low whole kept rest c.in-Some.ensures.units c.in-Nothing.ensures))

pub returns-else-count-greatest : goal.returns-else-count-greatest
returns-else-count-greatest c =
    let whole = c.args.number.now.whole.now in
    let kept = c.split_at.result.0.now in
    let rest = c.split_at.result.1.now in
    let cut = c.split_at.ensures.by_index.0 in
    let near = nearest_units c.args.places c.in-Some.low c.round-count.result whole kept rest c.rest_of.result c.in-Some.ensures.units (digits_after kept rest (subst AreDigits cut c.requires.decimal_digits))
    (are_kept c.args.number.now.decimals.now kept rest c.args.places cut (c.split_at.ensures.front_len ∙ c.min-count.ensures)) c.rest_of.ensures c.round-count.ensures in
    record {
      units = subst (λ b. AreReadUnits b c.args.places whole c.args.number.now.decimals.now c.round-count.result) (sym c.if-not-rounds.false)
          (subst (λ ds. AreReadUnits true c.args.places whole ds c.round-count.result) (sym cut) near);
      in_range = c.if-count-greatest.false;
    }
