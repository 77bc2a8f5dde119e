use Rattle.std.proofs.Common.{arith}
use Rattle.std.proofs.lemmas.List.{length-map}
use Rattle.rs_value.specs.View.{literal_datum, literal_row}
use Rattle.rs_value.proofs.FittingLemmas.{fits_each, fits_short}
use Rattle.rs_value.proofs.fitting.fits.Goals as goal

pub tuple_of-requires-clause-few : goal.tuple_of-requires-clause-few
tuple_of-requires-clause-few c =
    let fits = fits_each c.as_slice.result.now (literal_row c.args.literals.now) c.in_ok-check_fit.ensures.ok in
    omega (arith, fits.as_many, length-map c.args.literals.now literal_datum, c.as_slice.ensures.fits)

pub tuple_of-requires-clause-short : goal.tuple_of-requires-clause-short
tuple_of-requires-clause-short c = fits_short c.as_slice.result.now (literal_row c.args.literals.now) c.in_ok-check_fit.ensures.ok
