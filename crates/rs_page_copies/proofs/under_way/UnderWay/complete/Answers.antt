-- What the journal's stages do, said of the pages that were listed.
use Rattle.std.proofs.Common.{◌≡◌, ◌<◌, ◌∙◌, ℕ, List, ap, subst, sym, length, arith}
use Rattle.rs_journal.specs.declared.stage.Stage.{Stage}
use Rattle.rs_page.specs.declared.page.Page.{Page}
use Rattle.rs_page_copies.specs.Listed.{Checkpoint, CopiedPages}
use Rattle.rs_page_copies.proofs.Copying.{as_copied, EndsBy, GivesSince, LeavesKept, pages_of, few_ordered}
use Rattle.rs_page_copies.proofs.under_way.UnderWay.complete.Given.{Over}
use Rattle.rs_page_copies.proofs.under_way.UnderWay.complete.Goals as goal

pub new-copied-requires : goal.new-copied-requires
new-copied-requires g c =
    let few = few_ordered c.self.inside.numbers.items c.self.invariant in
    subst (λ (numbers : List ℕ). length numbers < 4294967296) (sym c.deref.ensures.value) (omega (arith, few))

-- the copies are the pages that were listed, and the stage is the one that was reached
same_pages : (g : Over) (c : goal.After-complete g) → c.new-copied.result ≡ pages_of c.args.changes.now c.args.self.now
same_pages g c = c.new-copied.ensures
    ∙ ap (λ (numbers : List ℕ). as_copied (record { numbers = numbers; changes = c.args.changes.now; first_page = c.deref-2.result.now.bytes })) c.deref.ensures.value
    ∙ ap (λ (page : Page). as_copied (record { numbers = c.self.inside.numbers.items; changes = c.args.changes.now; first_page = page.bytes })) c.deref-2.ensures
    ∙ ap (pages_of c.args.changes.now) c.self.view_is

same_stage : (g : Over) (c : goal.After-complete g) → c.self.inside.stage ≡ c.args.self.now.stage
same_stage g c = ap (λ (u : Checkpoint). u.stage) c.self.view_is

pub returns-clause-ends : goal.returns-clause-ends
returns-clause-ends g c = subst (λ (stage : Stage). EndsBy g.D.Disk c.args.first c.args.disk.now c.complete.new.disk c.complete.result c.complete.new.stage stage (pages_of c.args.changes.now c.args.self.now)) (same_stage g c)
    (subst (λ (copied : CopiedPages). EndsBy g.D.Disk c.args.first c.args.disk.now c.complete.new.disk c.complete.result c.complete.new.stage c.self.inside.stage copied) (same_pages g c) c.complete.ensures.ends)

pub returns-clause-since : goal.returns-clause-since
returns-clause-since g c = subst (λ (stage : Stage). GivesSince g.D.Disk c.args.first c.args.disk.now c.complete.new.disk stage (pages_of c.args.changes.now c.args.self.now)) (same_stage g c)
    (subst (λ (copied : CopiedPages). GivesSince g.D.Disk c.args.first c.args.disk.now c.complete.new.disk c.self.inside.stage copied) (same_pages g c) c.complete.ensures.since)

pub returns-clause-untouched : goal.returns-clause-untouched
returns-clause-untouched g c = subst (λ (stage : Stage). LeavesKept g.D.Disk c.args.first c.args.disk.now c.complete.new.disk c.complete.result c.complete.new.stage stage (pages_of c.args.changes.now c.args.self.now)) (same_stage g c)
    (subst (λ (copied : CopiedPages). LeavesKept g.D.Disk c.args.first c.args.disk.now c.complete.new.disk c.complete.result c.complete.new.stage c.self.inside.stage copied) (same_pages g c) c.complete.ensures.untouched)
