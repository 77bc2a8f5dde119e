-- The home pages, the gate, the cut.
use Rattle.std.proofs.Common.{IsTrue, ap, subst, sym, ◌≤◌, ◌*◌, ◌∙◌, arith, rules}
use Rattle.rs_journal.proofs.Advancing.{on_err, every-less, meanwhile-less, meanwhile-then, remains-same, on_ok}
use Rattle.rs_journal.proofs.Staging.{home-gives, closing-gives, quiet-gives, cut-or-not}
use Rattle.rs_journal.proofs.Recovering.{count-there, cut-counts, cut-shut, gave-by, is-cut}
use Rattle.rs_disk.specs.Content.{Content}
use Rattle.rs_disk.specs.Crash.{CutOrNot}
use Rattle.rs_page.specs.declared.page.TheConstants.{PAGE_SIZE}
use Rattle.rs_journal.specs.FilePages.{word_at}
use Rattle.rs_journal.proofs.recovery.repeat.Goals as goal

pub returns-in_err-bring_back-clause-goes : goal.returns-in_err-bring_back-clause-goes
returns-in_err-bring_back-clause-goes g c = λ journal pages carries says first_is count_is every.
    let one = c.in_err-bring_back.ensures.goes journal pages carries first_is count_is every in
    record {
      done = search rules;
      fault = on_err _ _ (every-less g.D.Disk _ _ _ (λ image is. home-gives journal pages image carries is) one.fault);
      meanwhile = meanwhile-less g.D.Disk _ _ _ _ (λ image is. home-gives journal pages image carries is) one.meanwhile;
    }

pub returns-in_err-close_gate-clause-goes : goal.returns-in_err-close_gate-clause-goes
returns-in_err-close_gate-clause-goes g c = λ journal pages carries says first_is count_is every.
    let one = c.in_ok-bring_back.ensures.goes journal pages carries first_is count_is every in
    let two = c.in_err-close_gate.ensures.goes journal pages carries one.done in
    record {
      done = search rules;
      fault = on_err _ _ (every-less g.D.Disk _ _ _ (λ image is. closing-gives journal pages image carries is) two.fault);
      meanwhile = meanwhile-then g.D.Disk _ _ _ _ c.bring_back.ensures.calls.keeping
          (meanwhile-less g.D.Disk _ _ _ _ (λ image is. home-gives journal pages image carries is) one.meanwhile)
          (meanwhile-less g.D.Disk _ _ _ _ (λ image is. closing-gives journal pages image carries is) two.meanwhile);
    }

pub returns-in_err-pages-clause-goes : goal.returns-in_err-pages-clause-goes
returns-in_err-pages-clause-goes g c = λ journal pages carries says first_is count_is every.
    let one = c.in_ok-bring_back.ensures.goes journal pages carries first_is count_is every in
    let two = c.in_ok-close_gate.ensures.goes journal pages carries one.done in
    let three = remains-same g.D.Disk _ _ _ c.read_word.ensures.reaches two.done in
    record {
      done = search rules;
      fault = on_err _ _ (every-less g.D.Disk _ _ _ (λ image is. quiet-gives pages image is) three.every);
      meanwhile = meanwhile-then g.D.Disk _ _ _ _ (c.close_gate.ensures.calls.keeping ∙ c.bring_back.ensures.calls.keeping)
          (meanwhile-then g.D.Disk _ _ _ _ c.bring_back.ensures.calls.keeping
          (meanwhile-less g.D.Disk _ _ _ _ (λ image is. home-gives journal pages image carries is) one.meanwhile)
          (meanwhile-less g.D.Disk _ _ _ _ (λ image is. closing-gives journal pages image carries is) two.meanwhile))
          (meanwhile-less g.D.Disk _ _ _ _ (λ image is. quiet-gives pages image is) three.meanwhile);
    }

pub returns-clause-goes : goal.returns-clause-goes
returns-clause-goes g c = λ journal pages carries says first_is count_is every.
    let one = c.in_ok-bring_back.ensures.goes journal pages carries first_is count_is every in
    let two = c.in_ok-close_gate.ensures.goes journal pages carries one.done in
    let three = remains-same g.D.Disk _ _ _ c.read_word.ensures.reaches two.done in
    let read = c.in_ok-pages.ensures.word two.done.honest in
    let counts = count-there pages _ says two.done.reads.pages_there in
    let long : pages.count ≤ c.in_ok-pages.pages = omega (arith, read, counts) in
    let four = c.cut.ensures.remains pages says.some long three.every in
    record {
      done = on_ok _ _ four.every;
      fault = on_err _ _ (every-less g.D.Disk _ _ _ (λ image is. quiet-gives pages image is) four.every);
      meanwhile = meanwhile-then g.D.Disk _ _ _ _ (c.read_word.ensures.reaches.keeping ∙ c.close_gate.ensures.calls.keeping ∙ c.bring_back.ensures.calls.keeping)
          (meanwhile-then g.D.Disk _ _ _ _ (c.close_gate.ensures.calls.keeping ∙ c.bring_back.ensures.calls.keeping)
          (meanwhile-then g.D.Disk _ _ _ _ c.bring_back.ensures.calls.keeping
          (meanwhile-less g.D.Disk _ _ _ _ (λ image is. home-gives journal pages image carries is) one.meanwhile)
          (meanwhile-less g.D.Disk _ _ _ _ (λ image is. closing-gives journal pages image carries is) two.meanwhile))
          (meanwhile-less g.D.Disk _ _ _ _ (λ image is. quiet-gives pages image is) three.meanwhile))
          (meanwhile-less g.D.Disk _ _ _ _ (λ image is. quiet-gives pages image is) four.meanwhile);
    }

pub returns-clause-gave : goal.returns-clause-gave
returns-clause-gave g c = λ journal honest there is.
    let second : IsTrue (g.D.Disk.is_honest c.bring_back.new.disk) = subst IsTrue (sym c.bring_back.ensures.calls.honesty) honest in
    let third : IsTrue (g.D.Disk.is_honest c.close_gate.new.disk) = subst IsTrue (sym c.close_gate.ensures.calls.honesty) second in
    let last : IsTrue (g.D.Disk.is_honest c.read_word.new.disk) = subst IsTrue (sym c.read_word.ensures.reaches.honesty) third in
    let cut = subst (λ (content : Content). CutOrNot (PAGE_SIZE * c.in_ok-pages.pages) content (g.D.Disk.seen c.cut.new.disk)) (c.read_word.ensures.reaches.reads third) (cut-or-not _ _ _ _ (c.cut.ensures.cut last)) in
    on_ok _ _ (gave-by journal _ _ _ _ c.in_ok-pages.pages there.tells is (c.in_ok-bring_back.ensures.brought journal honest there) (c.close_gate.ensures.gate_alone second) cut)

pub returns-clause-shut : goal.returns-clause-shut
returns-clause-shut g c = λ honest.
    let second : IsTrue (g.D.Disk.is_honest c.bring_back.new.disk) = subst IsTrue (sym c.bring_back.ensures.calls.honesty) honest in
    let third : IsTrue (g.D.Disk.is_honest c.close_gate.new.disk) = subst IsTrue (sym c.close_gate.ensures.calls.honesty) second in
    let fourth : IsTrue (g.D.Disk.is_honest c.read_word.new.disk) = subst IsTrue (sym c.read_word.ensures.reaches.honesty) third in
    let last : IsTrue (g.D.Disk.is_honest c.cut.new.disk) = subst IsTrue (sym c.cut.ensures.calls.honesty) fourth in
    let closed = ap (λ (content : Content). content.byte 64) (c.read_word.ensures.reaches.reads third) ∙ c.in_ok-close_gate.ensures.written second in
    is-cut _ _ _ _ _ (λ cut is. absurd (omega (arith, is, cut-shut c.in_ok-pages.pages _ _ cut (g.met.D.Disk.zeros_past_the_end c.cut.new.disk last) closed))) (c.cut.ensures.cut fourth)

pub returns-clause-cut : goal.returns-clause-cut
returns-clause-cut g c = λ honest.
    let second : IsTrue (g.D.Disk.is_honest c.bring_back.new.disk) = subst IsTrue (sym c.bring_back.ensures.calls.honesty) honest in
    let third : IsTrue (g.D.Disk.is_honest c.close_gate.new.disk) = subst IsTrue (sym c.close_gate.ensures.calls.honesty) second in
    let last : IsTrue (g.D.Disk.is_honest c.read_word.new.disk) = subst IsTrue (sym c.read_word.ensures.reaches.honesty) third in
    let read = c.in_ok-pages.ensures.word third ∙ sym (ap (λ (content : Content). word_at content.byte 32) (c.read_word.ensures.reaches.reads third)) in
    is-cut _ _ _ _ _ (λ cut. cut-counts c.in_ok-pages.pages _ _ cut read) (c.cut.ensures.cut last)
