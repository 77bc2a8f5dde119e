-- The referents of the route are put where none was.
use Rattle.std.proofs.Common.{◌≡◌, Err, ap, arith}
use Rattle.std.proofs.lemmas.Result.{err_from_is_err_and}
use Rattle.rs_catalog.specs.Referents.{referents_on}
use Rattle.rs_refusal.specs.declared.refusal.Refusal.TheVariants as refusal
use Rattle.rs_stored_catalog.proofs.MeantReferents.{all_referents}
use Rattle.rs_stored_catalog.proofs.OneRoute.{more_alone, nothing_alone}
use Rattle.rs_stored_catalog.proofs.route_referents.referents_of_route.Goals as goal

pub returns-then-number-eq4294967295-clause-brings : goal.returns-then-number-eq4294967295-clause-brings
returns-then-number-eq4294967295-clause-brings g c = λ tied referents used accepted holds routes spans meant.
    nothing_alone c.args.number c.args.version referents (referents_on c.new-made.result) c.new-made.ensures (omega (arith, c.if-number-eq4294967295.true)) routes spans meant

pub returns-in_err-bring_route-clause-damaged : goal.returns-in_err-bring_route-clause-damaged
returns-in_err-bring_route-clause-damaged g c = λ tied is referents used accepted holds routes spans meant.
    let p = err_from_is_err_and c.from_residual.result c.from_residual.ensures.1 in
    let why : c.in_err-bring_route.field-0.0 ≡ refusal.DamagedFile = cc (p.1, p.2, is) in
    c.in_err-bring_route.ensures.damaged tied (ap Err why) (omega (arith, c.if-number-eq4294967295.false, c.ranges.number.fits)) referents used accepted holds
    (all_referents routes c.args.version referents meant c.args.number spans)

pub returns-clause-brings : goal.returns-clause-brings
returns-clause-brings g c = λ tied referents used accepted holds routes spans meant.
    more_alone c.args.number c.args.version referents (referents_on c.new-made.result) (referents_on c.bring_route.new.made) c.new-made.ensures
    (c.in_ok-bring_route.ensures.brings tied referents used accepted holds (meant.once c.args.number))
