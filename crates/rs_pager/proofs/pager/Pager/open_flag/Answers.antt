-- The byte is read.
use Rattle.std.proofs.Common.{subst}
use Rattle.rs_pager.specs.Maps.{KeepsBelow, KeepsMaps}
use Rattle.rs_pager.specs.Paged.{Paged}
use Rattle.rs_pager.proofs.Keeping.{with_clean}
use Rattle.rs_pager.proofs.Reread.{reread-below, reread-maps}
use Rattle.rs_pager.proofs.pager.Pager.open_flag.Goals as goal

pub returns-in_err-map_err-clause-keeps : goal.returns-in_err-map_err-clause-keeps
returns-in_err-map_err-clause-keeps g c =
    let d = g.D.Disk in
    let i = c.self.inside in
    let s : Paged _ = record {
      disk = i.disk;
      limit = i.limit;
      changes = i.changes;
      clean = i.clean;
      committed_fields = i.committed_fields;
      working = i.working;
      is_header_changed = i.is_header_changed;
      is_begun = i.is_begun;
      full_refusals = i.full_refusals;
      under_way = i.under_way;
    } in
    subst (λ (old : Paged _). KeepsMaps d old (with_clean s c.read.new.self s.clean)) c.self.view_is (reread-maps d s c.read.new.self (record { honesty = c.read.ensures.honesty; keeping = c.read.ensures.keeping; reads = c.read.ensures.same; images = c.read.ensures.crash }) c.self.invariant)

pub returns-in_err-map_err-clause-below : goal.returns-in_err-map_err-clause-below
returns-in_err-map_err-clause-below g c =
    let d = g.D.Disk in
    let i = c.self.inside in
    let s : Paged _ = record {
      disk = i.disk;
      limit = i.limit;
      changes = i.changes;
      clean = i.clean;
      committed_fields = i.committed_fields;
      working = i.working;
      is_header_changed = i.is_header_changed;
      is_begun = i.is_begun;
      full_refusals = i.full_refusals;
      under_way = i.under_way;
    } in
    subst (λ (old : Paged _). KeepsBelow d old (with_clean s c.read.new.self s.clean)) c.self.view_is (reread-below d s c.read.new.self (record { honesty = c.read.ensures.honesty; keeping = c.read.ensures.keeping; reads = c.read.ensures.same; images = c.read.ensures.crash }))

pub returns-clause-keeps : goal.returns-clause-keeps
returns-clause-keeps g c =
    let d = g.D.Disk in
    let i = c.self.inside in
    let s : Paged _ = record {
      disk = i.disk;
      limit = i.limit;
      changes = i.changes;
      clean = i.clean;
      committed_fields = i.committed_fields;
      working = i.working;
      is_header_changed = i.is_header_changed;
      is_begun = i.is_begun;
      full_refusals = i.full_refusals;
      under_way = i.under_way;
    } in
    subst (λ (old : Paged _). KeepsMaps d old (with_clean s c.read.new.self s.clean)) c.self.view_is (reread-maps d s c.read.new.self (record { honesty = c.read.ensures.honesty; keeping = c.read.ensures.keeping; reads = c.read.ensures.same; images = c.read.ensures.crash }) c.self.invariant)

pub returns-clause-below : goal.returns-clause-below
returns-clause-below g c =
    let d = g.D.Disk in
    let i = c.self.inside in
    let s : Paged _ = record {
      disk = i.disk;
      limit = i.limit;
      changes = i.changes;
      clean = i.clean;
      committed_fields = i.committed_fields;
      working = i.working;
      is_header_changed = i.is_header_changed;
      is_begun = i.is_begun;
      full_refusals = i.full_refusals;
      under_way = i.under_way;
    } in
    subst (λ (old : Paged _). KeepsBelow d old (with_clean s c.read.new.self s.clean)) c.self.view_is (reread-below d s c.read.new.self (record { honesty = c.read.ensures.honesty; keeping = c.read.ensures.keeping; reads = c.read.ensures.same; images = c.read.ensures.crash }))
