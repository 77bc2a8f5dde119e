-- The working fields alone have changed.
use Rattle.std.proofs.Common.{subst}
use Rattle.rs_pages.specs.PageMap.{with_catalogue}
use Rattle.rs_pager.specs.Paged.{Paged}
use Rattle.rs_pager.specs.Maps.{KeepsBelow}
use Rattle.rs_pager.proofs.Keeping.{below-beside}
use Rattle.rs_pager.proofs.paging.PagerPages.set_catalogue.Goals as goal

pub returns-clause-keeps : goal.returns-clause-keeps
returns-clause-keeps g c =
    let d = g.D.Disk in
    let i = c.self.inside in
    let s : Paged _ = record {
      disk = i.disk;
      limit = i.limit;
      changes = i.changes;
      clean = i.clean;
      committed_fields = i.committed_fields;
      working = i.working;
      is_header_changed = i.is_header_changed;
      is_begun = i.is_begun;
      full_refusals = i.full_refusals;
      under_way = i.under_way;
    } in
    subst (λ (old : Paged _). KeepsBelow d old (record s { working = with_catalogue c.args.first c.args.length s.working })) c.self.view_is
    (below-beside d s (with_catalogue c.args.first c.args.length s.working) s.is_begun s.full_refusals)
