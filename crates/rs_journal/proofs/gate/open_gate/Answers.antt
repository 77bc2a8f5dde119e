-- From Gate to Home.
use Rattle.rs_journal.proofs.Advancing.{goes-by, on_ok_map}
use Rattle.rs_journal.proofs.Staging.{gate-on, is-opened}
use Rattle.rs_journal.proofs.gate.open_gate.Goals as goal

pub returns-clause-goes : goal.returns-clause-goes
returns-clause-goes g c = λ journal kept checkpoint makes every.
    goes-by g.D.Disk _ _ _ _ _ _ (λ a b is step. gate-on journal kept checkpoint a b makes is step) c.write_gate.ensures.reaches c.write_gate.ensures.durable
    (λ honest. on_ok_map c.write_gate.result (λ is gate. is-opened journal kept checkpoint _ makes gate is) (c.write_gate.ensures.written honest)) every
