-- One write, and a sync.
use Rattle.std.proofs.Common.{◌∙◌, IsTrue, ap, subst, sym, arith}
use Rattle.rs_disk.specs.Content.{Content}
use Rattle.rs_journal.specs.declared.limits.TheConstants.{GATE}
use Rattle.rs_journal.proofs.Words.{gate-written}
use Rattle.rs_disk.proofs.Reaching.{reaches_synced}
use Rattle.rs_journal.proofs.Advancing.{on_ok}
use Rattle.rs_journal.proofs.gate.write_gate.Goals as goal

pub returns-clause-reaches : goal.returns-clause-reaches
returns-clause-reaches g c = reaches_synced g.D.Disk _ _ _ _ c.write_at.ensures.reaches c.sync.ensures.reaches

pub returns-clause-written : goal.returns-clause-written
returns-clause-written g c = λ honest.
    let last : IsTrue (g.D.Disk.is_honest c.write_at.new.disk) = subst IsTrue (sym c.write_at.ensures.reaches.honesty) honest in
    on_ok _ _ (ap (λ (content : Content). content.byte GATE) (c.sync.ensures.reaches.reads last) ∙ gate-written _ _ (c.in_ok-write_at.ensures.written honest))

pub returns-clause-no_longer : goal.returns-clause-no_longer
returns-clause-no_longer g c = λ honest.
    let last : IsTrue (g.D.Disk.is_honest c.write_at.new.disk) = subst IsTrue (sym c.write_at.ensures.reaches.honesty) honest in
    let same = ap (λ (content : Content). content.size) (c.sync.ensures.reaches.reads last) in
    let long = c.write_at.ensures.no_longer honest in
    omega (arith, same, long)
