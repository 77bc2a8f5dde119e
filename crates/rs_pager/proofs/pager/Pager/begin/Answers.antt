-- What is held stays.
use Rattle.std.proofs.Common.{◌∙◌, true, ap, refl}
use Rattle.rs_pager.specs.Paged.{Paged}
use Rattle.rs_pager.proofs.Keeping.{same-shut}
use Rattle.rs_pager.proofs.pager.Pager.begin.Goals as goal

pub returns-clause-same : goal.returns-clause-same
returns-clause-same g c =
    let i = c.self.inside in
    let s : Paged _ = record {
      disk = i.disk;
      limit = i.limit;
      changes = i.changes;
      clean = i.clean;
      committed_fields = i.committed_fields;
      working = i.working;
      is_header_changed = i.is_header_changed;
      is_begun = i.is_begun;
      full_refusals = i.full_refusals;
      under_way = i.under_way;
    } in
    same-shut g.D.Disk s (record s { is_begun = true }) c.self.invariant (ap (λ (p : Paged _). p.is_begun) c.self.view_is ∙ c.requires.shut)
    (record { held = λ n. refl; lacks = refl; committed_fields = refl; working_fields = refl })
