-- From Home to Closing.
use Rattle.rs_journal.specs.Journal.{journal_of}
use Rattle.rs_journal.proofs.Advancing.{goes-by, on_ok_map}
use Rattle.rs_journal.proofs.Staging.{home-on, is-home}
use Rattle.rs_journal.proofs.home.bring_home.Goals as goal

pub returns-clause-goes : goal.returns-clause-goes
returns-clause-goes g c = λ first kept checkpoint makes every.
    let journal = journal_of g.C.Copies first c.args.copies.now in
    goes-by g.D.Disk _ _ _ _ _ _ (λ a b is step. home-on journal checkpoint a b makes.carries is step) c.write_home.ensures.reaches c.write_home.ensures.durable
    (λ honest. on_ok_map c.write_home.result (λ written home. is-home journal checkpoint _ makes.carries home written) (c.write_home.ensures.written honest)) every
