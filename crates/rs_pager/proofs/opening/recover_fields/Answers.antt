-- Page 0 is read once the checkpoint has ended.
use Rattle.std.proofs.Common.{◌≡◌, IsTrue, Result, Err, subst, sym, rules}
use Rattle.rs_disk.proofs.Reaching.{same-then}
use Rattle.rs_journal.specs.Recovery.{Recovered}
use Rattle.rs_page.specs.declared.file_header.FileHeader.{FileHeader}
use Rattle.rs_refusal.specs.declared.refusal.Refusal.{Refusal}
use Rattle.rs_pager.proofs.Recovered.{of-damaged, recovered-after, recovered-err, recovers-fields, recovers-none}
use Rattle.rs_pager.proofs.Versions.{damaged-none}
use Rattle.rs_pager.proofs.opening.recover_fields.Goals as goal

pub returns-clause-found : goal.returns-clause-found
returns-clause-found g c = λ honest.
    let still : IsTrue (g.D.Disk.is_honest c.recover.new.disk) = subst IsTrue (sym c.recover.ensures.calls.honesty) honest in
    recovers-fields g.D.Disk c.args.limit c.args.disk.now c.recover.new.disk c.read_second_fields.new.disk honest
    (λ pages says gives. c.in_ok-recover.ensures.recovers pages says honest gives) c.read_second_fields.ensures.reaches
    c.read_second_fields.result (c.in_ok-recover.ensures.gave honest) (c.read_second_fields.ensures.read still)

pub returns-clause-damaged : goal.returns-clause-damaged
returns-clause-damaged g c = λ honest is.
    let still : IsTrue (g.D.Disk.is_honest c.recover.new.disk) = subst IsTrue (sym c.recover.ensures.calls.honesty) honest in
    recovers-none g.D.Disk c.args.limit c.args.disk.now c.recover.new.disk c.read_second_fields.new.disk honest
    (λ pages says gives. c.in_ok-recover.ensures.recovers pages says honest gives) c.read_second_fields.ensures.reaches
    (c.read_second_fields.ensures.damaged still is)

pub returns-clause-shut : goal.returns-clause-shut
returns-clause-shut g c = λ honest closed. same-then g.D.Disk _ _ _ (c.recover.ensures.closed honest closed) c.read_second_fields.ensures.reaches

pub returns-clause-recovers : goal.returns-clause-recovers
returns-clause-recovers g c = λ pages honest says gives.
    recovered-after g.D.Disk {T = Unit {0}} {E = Refusal} {T' = FileHeader} {E' = Refusal} pages (tt {0}) c.read_second_fields.result c.args.disk.now c.recover.new.disk c.read_second_fields.new.disk
    c.recover.ensures.calls.keeping (c.in_ok-recover.ensures.recovers pages says honest gives) c.read_second_fields.ensures.reaches

pub returns-in_err-recover-clause-damaged : goal.returns-in_err-recover-clause-damaged
returns-in_err-recover-clause-damaged g c = λ honest is.
    let failed : c.from_residual.result ≡ Err c.in_err-recover.field-0.0 = search rules in
    damaged-none _ c.args.limit (of-damaged (Unit {0}) _ c.in_err-recover.field-0.0 (c.in_err-recover.ensures.damaged honest) (cc))

pub returns-in_err-recover-clause-recovers : goal.returns-in_err-recover-clause-recovers
returns-in_err-recover-clause-recovers g c = λ pages honest says gives.
    let failed : c.from_residual.result ≡ Err c.in_err-recover.field-0.0 = search rules in
    subst (λ (result : Result FileHeader Refusal). Recovered g.D.Disk pages result c.args.disk.now c.recover.new.disk) (sym failed)
    (recovered-err g.D.Disk {T = Unit {0}} {E = Refusal} {T' = FileHeader} {E' = Refusal} pages c.in_err-recover.field-0.0 c.in_err-recover.field-0.0 c.args.disk.now c.recover.new.disk
    (c.in_err-recover.ensures.recovers pages says honest gives))
