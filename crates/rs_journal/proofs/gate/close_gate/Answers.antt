-- From Closing to the next checkpoint.
use Rattle.rs_journal.proofs.Advancing.{goes-by, on_ok_map}
use Rattle.rs_journal.proofs.Staging.{closing-on, is-closed}
use Rattle.rs_journal.proofs.gate.close_gate.Goals as goal

pub returns-clause-goes : goal.returns-clause-goes
returns-clause-goes g c = λ journal checkpoint carries every.
    goes-by g.D.Disk _ _ _ _ _ _ (λ a b is step. closing-on journal checkpoint a b carries is step) c.write_gate.ensures.reaches c.write_gate.ensures.durable
    (λ honest. on_ok_map c.write_gate.result (λ is closing. is-closed journal checkpoint _ closing is) (c.write_gate.ensures.written honest)) every

pub returns-clause-gate_alone : goal.returns-clause-gate_alone
returns-clause-gate_alone g c = λ honest.
    record { others = c.write_gate.ensures.reaches.reads honest; no_longer = c.write_gate.ensures.no_longer honest }
