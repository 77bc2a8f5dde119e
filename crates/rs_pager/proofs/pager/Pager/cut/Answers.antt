-- The pages that are kept stay.
use Rattle.std.proofs.Common.{◌≡◌, ◌∙◌, ap, subst, sym, arith}
use Rattle.rs_page.specs.declared.file_header.FileHeader.{FileHeader}
use Rattle.rs_pages.specs.Held.{HeldPage}
use Rattle.rs_page_cache.specs.Clean.{Clean}
use Rattle.rs_journal.specs.declared.stage.Stage.TheVariants.{Fresh}
use Rattle.rs_pager.specs.Lasts.{Cuts}
use Rattle.rs_pager.specs.Maps.{committed, ArePages, HoldsNoChange, IsKept, IsTied}
use Rattle.rs_pager.specs.Paged.{Paged}
use Rattle.rs_pager.proofs.Cut.{cuts}
use Rattle.rs_pager.proofs.pager.Pager.cut.Goals as goal

pub returns-clause-cuts : goal.returns-clause-cuts
returns-clause-cuts g c =
    let d = g.D.Disk in
    let i = c.self.inside in
    let s : Paged _ = record {
      disk = i.disk;
      limit = i.limit;
      changes = i.changes;
      clean = i.clean;
      committed_fields = i.committed_fields;
      working = i.working;
      is_header_changed = i.is_header_changed;
      is_begun = i.is_begun;
      full_refusals = i.full_refusals;
      under_way = i.under_way;
    } in
    let shut = ap (λ (p : Paged _). p.is_begun) c.self.view_is ∙ c.requires in
    λ pages. subst (λ (old : Paged _). IsTied d old → old.under_way.stage ≡ Fresh → IsKept d old pages → ArePages (committed d old) pages → HoldsNoChange old
    → Cuts d pages old (record s { disk = c.cut.new.disk; clean = c.clear.new.self })) c.self.view_is
    (λ tied fresh is are none. subst (λ (clean : Clean). Cuts d pages s (record s { disk = c.cut.new.disk; clean = clean })) (sym c.clear.ensures)
    (cuts d s pages tied fresh is are c.self.invariant c.cut.new.disk (c.cut.ensures.remains pages is.says.some (omega (arith, is.before)) (is.quiet fresh))
    (λ n. ap (λ (h : HeldPage). h.committed) (none.none n)) (ap (λ (f : FileHeader). f.pages) (c.self.invariant.same shut))))
