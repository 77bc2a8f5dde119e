-- From Fresh to Gate.
use Rattle.rs_journal.proofs.Advancing.{goes-by, on_ok_map}
use Rattle.rs_journal.proofs.Staging.{quiet-on}
use Rattle.rs_journal.proofs.journal.begin.Goals as goal

pub returns-clause-goes : goal.returns-clause-goes
returns-clause-goes g c = λ kept checkpoint makes every.
    goes-by g.D.Disk _ _ _ _ _ _ (λ a b is step. quiet-on _ kept checkpoint a b makes is step) c.write_journal.ensures.reaches c.write_journal.ensures.durable
    (λ honest. on_ok_map c.write_journal.result (λ there quiet. record { pages_there = quiet.pages_there; journal_there = there }) (c.write_journal.ensures.written honest)) every
