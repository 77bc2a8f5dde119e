-- A checkpoint stops in a stage, or ends.
use Rattle.std.proofs.Common.{◌∙◌, false, Ok, ap, refl, subst, sym}
use Rattle.std.proofs.lemmas.Result.{err_from_is_err_and}
use Rattle.rs_refusal.specs.declared.refusal.Refusal.{Refusal}
use Rattle.rs_page_cache.specs.Changes.{Changes}
use Rattle.rs_page_copies.specs.Listed.{Checkpoint}
use Rattle.rs_pager.specs.Lasts.{Carried}
use Rattle.rs_pager.specs.Maps.{CarriesOn, IsKept}
use Rattle.rs_pager.specs.Paged.{Paged}
use Rattle.rs_pager.proofs.Checkpoints.{carried_stopped, carried_ended}
use Rattle.rs_pager.proofs.pager.Pager.complete.Goals as goal

pub returns-in_err-complete-clause-carried : goal.returns-in_err-complete-clause-carried
returns-in_err-complete-clause-carried g c =
    let d = g.D.Disk in
    let i = c.self.inside in
    let s : Paged _ = record {
      disk = i.disk;
      limit = i.limit;
      changes = i.changes;
      clean = i.clean;
      committed_fields = i.committed_fields;
      working = i.working;
      is_header_changed = i.is_header_changed;
      is_begun = i.is_begun;
      full_refusals = i.full_refusals;
      under_way = i.under_way;
    } in
    let disk = c.complete.new.disk in
    let failed = err_from_is_err_and c.from_residual.result c.from_residual.ensures.1 in
    λ pages. subst (λ (old : Paged _). IsKept d old pages → CarriesOn d old pages → Carried d pages c.from_residual.result old (record s { disk = disk; under_way = c.complete.new.self })) c.self.view_is
    (λ is_kept on. subst (λ (u : Checkpoint). Carried d pages c.from_residual.result s (record s { disk = disk; under_way = u })) (sym c.complete.ensures.pages)
    (carried_stopped d s pages is_kept on c.self.invariant (ap (λ (p : Paged _). p.is_begun) c.self.view_is ∙ c.requires.shut) (ap (λ (p : Paged _). p.clean) c.self.view_is ∙ c.requires.clean) disk
    (c.complete.ensures.ends pages on.checkpoint on.makes on.every).meanwhile c.from_residual.result failed.0 failed.1 c.complete.new.self.stage
    (c.in_err-complete.ensures.ends pages on.checkpoint on.makes on.every).reached))

pub returns-clause-carried : goal.returns-clause-carried
returns-clause-carried g c =
    let d = g.D.Disk in
    let i = c.self.inside in
    let s : Paged _ = record {
      disk = i.disk;
      limit = i.limit;
      changes = i.changes;
      clean = i.clean;
      committed_fields = i.committed_fields;
      working = i.working;
      is_header_changed = i.is_header_changed;
      is_begun = i.is_begun;
      full_refusals = i.full_refusals;
      under_way = i.under_way;
    } in
    let disk = c.complete.new.disk in
    λ pages. subst (λ (old : Paged _). IsKept d old pages → CarriesOn d old pages
    → Carried d {T = Unit {0}} {E = Refusal} pages (Ok (tt {0})) old (record s { disk = disk; changes = c.clear.new.self; is_header_changed = false; under_way = c.complete.new.self })) c.self.view_is
    (λ is_kept on. subst (λ (changes : Changes). Carried d {T = Unit {0}} {E = Refusal} pages (Ok (tt {0})) s (record s { disk = disk; changes = changes; is_header_changed = false; under_way = c.complete.new.self })) (sym c.clear.ensures)
    (let ends = c.in_ok-complete.ensures.ends pages on.checkpoint on.makes on.every in
    carried_ended d s pages is_kept on c.self.invariant (ap (λ (p : Paged _). p.is_begun) c.self.view_is ∙ c.requires.shut) (ap (λ (p : Paged _). p.clean) c.self.view_is ∙ c.requires.clean) disk
    ends.meanwhile (Ok (tt {0})) (tt {0}) refl c.complete.new.self ends.done.0 ends.done.1))
