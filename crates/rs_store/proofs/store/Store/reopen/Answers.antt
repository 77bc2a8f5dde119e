-- What was saved is read anew, page 0 first.
use Rattle.std.proofs.Common.{Err, Ok, ap, inl, inr}
use Rattle.std.proofs.lemmas.Result.{err_from_is_err_and}
use Rattle.rs_refusal.specs.declared.refusal.Refusal.{Refusal}
use Rattle.rs_store.proofs.HeldChanges.{still_later}
use Rattle.rs_store.proofs.Keeping.{keeps_store-trans, reopens_after, reopens_err, saves_after, stands_kept}
use Rattle.rs_store.proofs.store.Store.reopen.Goals as goal

pub returns-in_err-save-clause-reopens : goal.returns-in_err-save-clause-reopens
returns-in_err-save-clause-reopens g c =
    let p = err_from_is_err_and c.from_residual.result c.from_residual.ensures.1 in
    rw (p.1, p.2) (reopens_err g.D.Disk c.in_err-save.field-0.0 c.args.self.now c.save.new.self c.save.ensures.keeps
    (λ oldest state stands is. elim c.in_err-save.ensures.refused [ inl memory ↦ absurd (cc (is, memory)) | inr failed ↦ absurd (cc (is, failed)) ]) c.save.ensures.changes)

pub returns-in_err-check_first_page-clause-reopens : goal.returns-in_err-check_first_page-clause-reopens
returns-in_err-check_first_page-clause-reopens g c =
    let d = g.D.Disk in
    let was = c.args.self.now in
    let saved = c.save.new.self in
    let looked = c.check_first_page.new.self in
    let p = err_from_is_err_and c.from_residual-in_err-check_first_page.result c.from_residual-in_err-check_first_page.ensures.1 in
    rw (p.1, p.2) (reopens_err d c.in_err-check_first_page.field-0.0 was looked (keeps_store-trans d was saved looked c.save.ensures.keeps c.check_first_page.ensures.keeps)
    (λ oldest state stands is. c.in_err-check_first_page.ensures.sound oldest state (stands_kept d oldest was saved state c.save.ensures.keeps stands) (ap Err is))
    (still_later d was.pager saved.pager looked.pager c.save.ensures.changes c.check_first_page.ensures.changes))

pub returns-clause-reopens : goal.returns-clause-reopens
returns-clause-reopens g c =
    let d = g.D.Disk in
    let was = c.args.self.now in
    let saved = c.save.new.self in
    let looked = c.check_first_page.new.self in
    reopens_after d c.read_anew.result was looked c.read_anew.new.self (keeps_store-trans d was saved looked c.save.ensures.keeps c.check_first_page.ensures.keeps)
    c.read_anew.ensures.reopens
    (still_later d was.pager saved.pager looked.pager c.save.ensures.changes c.check_first_page.ensures.changes)
    c.read_anew.ensures.changes

pub returns-clause-saves : goal.returns-clause-saves
returns-clause-saves g c =
    let d = g.D.Disk in
    let was = c.args.self.now in
    let saved = c.save.new.self in
    let looked = c.check_first_page.new.self in
    saves_after d c.read_anew.result was looked c.read_anew.new.self (keeps_store-trans d was saved looked c.save.ensures.keeps c.check_first_page.ensures.keeps)
    (saves_after d {F = Refusal} (Ok tt) was saved looked c.save.ensures.keeps c.in_ok-save.ensures.saves c.check_first_page.ensures.below c.check_first_page.ensures.keeps.limit)
    c.read_anew.ensures.below c.read_anew.ensures.reopens.limit
