-- The page may have been read.
use Rattle.std.proofs.Common.{◌<◌, subst, arith}
use Rattle.rs_pages.specs.Lending.{RestsAfter}
use Rattle.rs_pager.specs.Paged.{Paged}
use Rattle.rs_pager.specs.Maps.{pager_store, KeepsBelow, IsTied}
use Rattle.rs_pager.proofs.Keeping.{with_clean}
use Rattle.rs_pager.proofs.Loaded.{clean-rests_after}
use Rattle.rs_pager.proofs.pager.Pager.load.Goals as goal

pub returns-clause-rests : goal.returns-clause-rests
returns-clause-rests g c =
    let d = g.D.Disk in
    let s : Paged _ = record {
      disk = c.self.inside.disk;
      limit = c.self.inside.limit;
      changes = c.self.inside.changes;
      clean = c.self.inside.clean;
      committed_fields = c.self.inside.committed_fields;
      working = c.self.inside.working;
      is_header_changed = c.self.inside.is_header_changed;
      is_begun = c.self.inside.is_begun;
      full_refusals = c.self.inside.full_refusals;
      under_way = c.self.inside.under_way;
    } in
    let pos : 0 < c.args.number = omega arith in
    subst (λ (old : Paged _). RestsAfter (IsTied d) (pager_store d) (KeepsBelow d) c.load.result old (with_clean s c.load.new.disk c.load.new.self)) c.self.view_is
    (clean-rests_after d c.args.number s c.load.new.disk c.load.new.self pos (record {
      honesty = c.load.ensures.honesty;
      keeping = c.load.ensures.keeping;
      same = c.load.ensures.same;
      crash = c.load.ensures.crash;
      loads = c.load.ensures.loads;
    }) c.load.result c.load.ensures.refused c.load.ensures.count)
