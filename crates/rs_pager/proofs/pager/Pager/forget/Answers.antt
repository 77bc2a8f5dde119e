-- The clean pages are dropped.
use Rattle.std.proofs.Common.{subst, sym}
use Rattle.rs_page_cache.specs.Clean.{Clean}
use Rattle.rs_pager.specs.Paged.{Paged}
use Rattle.rs_pager.specs.Maps.{KeepsMaps}
use Rattle.rs_pager.proofs.Keeping.{forgotten-keeps}
use Rattle.rs_pager.proofs.pager.Pager.forget.Goals as goal

pub returns-clause-keeps : goal.returns-clause-keeps
returns-clause-keeps g c =
    let d = g.D.Disk in
    let i = c.self.inside in
    let s : Paged _ = record {
      disk = i.disk;
      limit = i.limit;
      changes = i.changes;
      clean = i.clean;
      committed_fields = i.committed_fields;
      working = i.working;
      is_header_changed = i.is_header_changed;
      is_begun = i.is_begun;
      full_refusals = i.full_refusals;
      under_way = i.under_way;
    } in
    subst (λ (old : Paged _). KeepsMaps d old (record s { clean = c.clear.new.self })) c.self.view_is
    (subst (λ (clean : Clean). KeepsMaps d s (record s { clean = clean })) (sym c.clear.ensures) (forgotten-keeps d s c.self.invariant))
