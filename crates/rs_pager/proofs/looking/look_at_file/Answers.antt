-- The look shows the file; or the journal is damaged, or gives page 0 in format 1.
use Rattle.std.proofs.Common.{◌≡◌, ◌≢◌, ◌∙◌, IfErr, IsTrue, Result, Err, ap, sym, subst, rules, tests}
use Rattle.rs_disk.specs.Content.{Content}
use Rattle.rs_disk.specs.Crash.{Same}
use Rattle.rs_disk.specs.Reaches.{Reaches}
use Rattle.rs_disk.specs.declared.disk.Disk as disk
use Rattle.rs_refusal.specs.declared.refusal.Refusal.{Refusal}
use Rattle.rs_refusal.specs.declared.refusal.Refusal.TheVariants.{DamagedFile}
use Rattle.rs_journal.specs.Journal.{IsTold}
use Rattle.rs_journal.specs.Look.{LookedAt, shown}
use Rattle.rs_journal.specs.Recovery.{IsDamaged}
use Rattle.rs_pager.specs.LookedAt.{GivesFirst, IsFileOfNone, ShowsSameFile}
use Rattle.rs_pager.proofs.LookedAt.{damaged_is_none, first_is_none, shows_file}
use Rattle.rs_pager.proofs.Recovered.{of-damaged}
use Rattle.rs_pager.proofs.looking.look_at_file.Goals as goal

-- what a look shows after reads of the disk
shows_after : (was read now : Content) → read ≡ was → now ≡ read → (read.byte 64 ≡ 1 → IsTold read) → (GivesFirst was → ⊥) → ShowsSameFile was (shown now)
shows_after was read now first second told none =
    subst (λ (content : Content). ShowsSameFile was (shown content)) (sym (second ∙ first))
    (shows_file was (subst (λ (content : Content). content.byte 64 ≡ 1 → IsTold content) first told) none)

pub returns-in_err-looked-clause-damaged : goal.returns-in_err-looked-clause-damaged
returns-in_err-looked-clause-damaged g c = λ honest.
    let d = g.D.Disk in
    let refused = c.in_err-looked.field-0.0 in
    let failed : c.from_residual.result ≡ Err refused = search rules in
    let still : IsTrue (d.is_honest c.read_gate.new.disk) = subst IsTrue (sym c.read_gate.ensures.reaches.honesty) honest in
    subst (λ (result : Result (LookedAt _) (_ × Refusal)). IfErr result (λ refused. refused.1 ≡ DamagedFile → IsFileOfNone (d.seen c.args.disk))) (sym failed)
    (λ is. subst IsFileOfNone (c.read_gate.ensures.reaches.reads honest)
    (damaged_is_none (d.seen c.read_gate.new.disk) (of-damaged (Unit {0}) (IsDamaged (d.seen c.read_gate.new.disk)) refused.1 (c.in_err-looked.ensures.damaged still) is)))

pub returns-then-gate-ne-OPEN-clause-shows : goal.returns-then-gate-ne-OPEN-clause-shows
returns-then-gate-ne-OPEN-clause-shows g c = λ honest.
    let d = g.D.Disk in
    let still : IsTrue (d.is_honest c.read_gate.new.disk) = subst IsTrue (sym c.read_gate.ensures.reaches.honesty) honest in
    let shows = c.in_ok-looked.ensures.0 in
    let is : c.in-Ok.gate ≡ (d.seen c.args.disk).byte 64 = c.in-Ok.ensures.gate honest in
    let other : c.in-Ok.gate ≢ 1 = search (rules, tests) in
    shows_after (d.seen c.args.disk) (d.seen c.read_gate.new.disk) (d.seen c.in_ok-looked.looked.disk) (c.read_gate.ensures.reaches.reads honest) (shows.reads.reads still)
    (shows.told still) (λ gives. other (is ∙ gives.opened))

pub returns-in-Ok-eq1-clause-damaged : goal.returns-in-Ok-eq1-clause-damaged
returns-in-Ok-eq1-clause-damaged g c = λ honest _.
    let d = g.D.Disk in
    let still : IsTrue (d.is_honest c.read_gate.new.disk) = subst IsTrue (sym c.read_gate.ensures.reaches.honesty) honest in
    let shows = c.in_ok-looked.ensures.0 in
    let later : IsTrue (d.is_honest c.in_ok-looked.looked.disk) = subst IsTrue (sym shows.reads.honesty) still in
    let is : c.in-Ok.gate ≡ (d.seen c.args.disk).byte 64 = c.in-Ok.ensures.gate honest in
    let opened : c.in-Ok.gate ≡ 1 = search (rules, tests) in
    let format : c.in-Ok-eq1.field-0 ≡ (shown (d.seen c.in_ok-looked.looked.disk)).byte 27 = c.in-Ok-eq1.ensures.format later in
    let first : c.in-Ok-eq1.field-0 ≡ 1 = search (rules, tests) in
    let same = shows.reads.reads still ∙ c.read_gate.ensures.reaches.reads honest in
    first_is_none (d.seen c.args.disk) (record {
      opened = sym is ∙ opened;
      format = ap (λ (content : Content). (shown content).byte 27) (sym same) ∙ sym format ∙ first;
    })

pub returns-in-Ok-shown_format-clause-shows : goal.returns-in-Ok-shown_format-clause-shows
returns-in-Ok-shown_format-clause-shows g c = λ honest.
    let d = g.D.Disk in
    let still : IsTrue (d.is_honest c.read_gate.new.disk) = subst IsTrue (sym c.read_gate.ensures.reaches.honesty) honest in
    let shows = c.in_ok-looked.ensures.0 in
    let later : IsTrue (d.is_honest c.in_ok-looked.looked.disk) = subst IsTrue (sym shows.reads.honesty) still in
    let format : c.in-Ok-shown_format.field-0 ≡ (shown (d.seen c.in_ok-looked.looked.disk)).byte 27 = c.in-Ok-shown_format.ensures.format later in
    let other : c.in-Ok-shown_format.field-0 ≢ 1 = search (rules, tests) in
    let same = shows.reads.reads still ∙ c.read_gate.ensures.reaches.reads honest in
    shows_after (d.seen c.args.disk) (d.seen c.read_gate.new.disk) (d.seen c.shown_format.new.look.disk) (c.read_gate.ensures.reaches.reads honest)
    (c.shown_format.ensures.reaches.reads later ∙ shows.reads.reads still) (shows.told still)
    (λ gives. other (format ∙ ap (λ (content : Content). (shown content).byte 27) same ∙ gives.format))
