-- Each working copy is committed.
use Rattle.std.proofs.Common.{◌≡◌, ◌∙◌, false, ap, subst, rules}
use Rattle.rs_pager.specs.Paged.{Paged}
use Rattle.rs_pager.specs.Maps.{IsTied}
use Rattle.rs_pager.proofs.Keeping.{commit-tied}
use Rattle.rs_pager.proofs.pager.Pager.commit.Goals.{then-self, else-self}
use Rattle.rs_pager.proofs.pager.Pager.commit.Goals as goal

pub returns-clause-tied : goal.returns-clause-tied
returns-clause-tied g c =
    let d = g.D.Disk in
    let i = c.self.inside in
    let s : Paged _ = record {
      disk = i.disk;
      limit = i.limit;
      changes = i.changes;
      clean = i.clean;
      committed_fields = i.committed_fields;
      working = i.working;
      is_header_changed = i.is_header_changed;
      is_begun = i.is_begun;
      full_refusals = i.full_refusals;
      under_way = i.under_way;
    } in
    let lacks = c.if-self.self in
    let new : Paged _ = record s { changes = c.commit.new.self; committed_fields = s.working; is_header_changed = lacks; is_begun = false } in
    let says : lacks ≡ false → (s.is_header_changed ≡ false) × (s.committed_fields ≡ s.working) = search rules in
    subst (λ (old : Paged _). IsTied d old → IsTied d new) c.self.view_is
    (commit-tied d s c.self.invariant (ap (λ (p : Paged _). p.is_begun) c.self.view_is ∙ c.requires) c.commit.new.self c.commit.ensures lacks says)
