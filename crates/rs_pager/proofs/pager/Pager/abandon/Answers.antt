-- Each working copy is dropped.
use Rattle.std.proofs.Common.{◌∙◌, false, ap, subst}
use Rattle.rs_pager.specs.Paged.{Paged}
use Rattle.rs_pager.specs.Maps.{IsTied}
use Rattle.rs_pager.proofs.Keeping.{abandon-tied}
use Rattle.rs_pager.proofs.pager.Pager.abandon.Goals as goal

pub returns-clause-tied : goal.returns-clause-tied
returns-clause-tied g c =
    let d = g.D.Disk in
    let i = c.self.inside in
    let s : Paged _ = record {
      disk = i.disk;
      limit = i.limit;
      changes = i.changes;
      clean = i.clean;
      committed_fields = i.committed_fields;
      working = i.working;
      is_header_changed = i.is_header_changed;
      is_begun = i.is_begun;
      full_refusals = i.full_refusals;
      under_way = i.under_way;
    } in
    let new : Paged _ = record s { changes = c.abandon.new.self; working = s.committed_fields; is_begun = false } in
    subst (λ (old : Paged _). IsTied d old → IsTied d new) c.self.view_is
    (abandon-tied d s c.self.invariant (ap (λ (p : Paged _). p.is_begun) c.self.view_is ∙ c.requires) c.abandon.new.self c.abandon.ensures)
