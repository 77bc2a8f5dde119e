-- What came into memory goes out of it again.
use Rattle.rs_catalog.specs.Referents.{referents_on}
use Rattle.rs_store.proofs.Referred.{back_as_before}
use Rattle.rs_store.proofs.Results.{err_always}
use Rattle.rs_store.proofs.referring.define_in_both.Goals as goal

pub returns-then-is_err-clause-back : goal.returns-then-is_err-clause-back
returns-then-is_err-clause-back g c =
    let one = c.args.referent.now in
    err_always c.define_referent-made.result (back_as_before (referents_on c.remove.new.self) (referents_on c.put.new.self) (referents_on c.args.referents.now) one.route one.name.bytes one.measure
    c.remove.ensures c.in_ok-put.ensures.ok c.requires.new)
