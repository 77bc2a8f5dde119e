-- The gate is open, and the journal well formed.
use Rattle.std.proofs.Common.{◌≢◌, ◌≡◌, ◌∙◌, ℕ, IsTrue, ap, subst, sym, rules}
use Rattle.rs_disk.specs.Content.{Content}
use Rattle.rs_journal.specs.Journal.{Recovers}
use Rattle.rs_journal.specs.FilePages.{word_at}
use Rattle.rs_journal.specs.Stages.{IsHome}
use Rattle.rs_journal.proofs.Advancing.{every-less, meanwhile-less, meanwhile-then, remains-same}
use Rattle.rs_journal.proofs.Recovering.{carries-told, home-told, gave-same, gave-closed, damaged-by, damaged-passed}
use Rattle.rs_journal.specs.Recovery.{IsThere, journal_in}
use Rattle.rs_disk.proofs.Reaching.{same-then}
use Rattle.rs_journal.proofs.recovery.recover_synced.Goals as goal

pub returns-clause-goes : goal.returns-clause-goes
returns-clause-goes g c = λ pages says gives every.
    let seen = g.D.Disk.seen c.args.disk.now in
    let still : IsTrue (g.D.Disk.is_honest c.read_gate.new.disk) = subst IsTrue (sym c.read_gate.ensures.reaches.honesty) every.honest in
    let same = c.read_gate.ensures.reaches.reads every.honest in
    let found = c.in_ok-first.ensures.found still in
    let opened : seen.byte 64 ≡ 1 = sym (c.in_ok-read_gate.ensures.gate every.honest) ∙ search rules in
    let by = gives.opened opened in
    let carries = carries-told seen pages says by in
    let home = home-told seen pages opened by in
    let first_is : by.journal.first ≡ c.in_ok-first.first = sym by.tells.there.fields.first_page ∙ sym (ap (λ (content : Content). word_at content.byte 68) same) ∙ found.first_page in
    let count_is : by.journal.count ≡ c.in_ok-first.count = sym by.tells.there.fields.copies ∙ sym (ap (λ (content : Content). word_at content.byte 72) same) ∙ found.copies in
    let remains = remains-same g.D.Disk _ _ _ (same-then g.D.Disk _ _ _ c.read_gate.ensures.reaches c.read_journal.ensures.reaches) every in
    let at_home = every-less g.D.Disk _ (IsHome by.journal pages) _ (λ image is. subst (IsHome by.journal pages) (sym is) home) remains.every in
    let goes = c.repeat.ensures.goes by.journal pages carries says first_is count_is at_home in
    record {
      done = goes.done;
      fault = goes.fault;
      meanwhile = meanwhile-then g.D.Disk _ _ _ _ (c.read_journal.ensures.reaches.keeping ∙ c.read_gate.ensures.reaches.keeping)
          (meanwhile-less g.D.Disk _ _ _ _ (λ image is. subst (λ content. Recovers content pages) (sym is) gives) remains.meanwhile) goes.meanwhile;
    }

pub returns-clause-gave : goal.returns-clause-gave
returns-clause-gave g c = λ honest.
    let seen = g.D.Disk.seen c.args.disk.now in
    let still : IsTrue (g.D.Disk.is_honest c.read_gate.new.disk) = subst IsTrue (sym c.read_gate.ensures.reaches.honesty) honest in
    let last : IsTrue (g.D.Disk.is_honest c.read_journal.new.disk) = subst IsTrue (sym c.read_journal.ensures.reaches.honesty) still in
    let same = c.read_journal.ensures.reaches.reads still ∙ c.read_gate.ensures.reaches.reads honest in
    let journal = journal_in (g.D.Disk.seen c.read_gate.new.disk) in
    let there = subst (λ (content : Content). IsThere c.in_ok-first.first c.in_ok-first.count journal content) (sym (c.read_journal.ensures.reaches.reads still)) (c.in_ok-first.ensures.found still) in
    let opened : seen.byte 64 ≡ 1 = sym (c.in_ok-read_gate.ensures.gate honest) ∙ search rules in
    gave-same c.repeat.result _ _ _ same (c.repeat.ensures.gave journal last there (ap (λ (content : Content). content.byte 64) same ∙ opened))

pub returns-then-branch-ne-OPEN-clause-gave : goal.returns-then-branch-ne-OPEN-clause-gave
returns-then-branch-ne-OPEN-clause-gave g c = λ honest.
    let closed : c.in_ok-read_gate.field-0 ≢ 1 = search rules in
    gave-closed _ _ (λ is. closed (c.in_ok-read_gate.ensures.gate honest ∙ is)) (c.read_gate.ensures.reaches.reads honest)

pub returns-in_err-first-clause-damaged : goal.returns-in_err-first-clause-damaged
returns-in_err-first-clause-damaged g c = λ honest.
    let seen = g.D.Disk.seen c.args.disk.now in
    let still : IsTrue (g.D.Disk.is_honest c.read_gate.new.disk) = subst IsTrue (sym c.read_gate.ensures.reaches.honesty) honest in
    let opened : seen.byte 64 ≡ 1 = sym (c.in_ok-read_gate.ensures.gate honest) ∙ search rules in
    damaged-passed (ℕ × ℕ) _ _ _ _ c.from_residual-in_err-first.result (search rules) (damaged-by _ _ (c.read_gate.ensures.reaches.reads honest) opened) (c.in_err-first.ensures.damaged still)
