-- The pages that were listed make a checkpoint.
use Rattle.std.proofs.Common.{◌≡◌, ◌∙◌, [], OnOk, List, ap, subst, sym, rules}
use Rattle.rs_journal.proofs.Advancing.{on_ok_map}
use Rattle.rs_journal.specs.declared.stage.Stage.{Stage}
use Rattle.rs_journal.specs.declared.stage.Stage.TheVariants.{Fresh}
use Rattle.rs_page_cache.specs.Clean.{Clean}
use Rattle.rs_pager.specs.Maps.{CarriesOn, IsKept, IsTied}
use Rattle.rs_pager.specs.Paged.{Paged}
use Rattle.rs_pager.specs.SecondHeader.{IsSecondHeader}
use Rattle.std.specs.Prelude.{length}
use Rattle.rs_page.specs.declared.page.TheConstants.{PAGE_SIZE}
use Rattle.rs_pager.proofs.Made.{ready_carries}
use Rattle.rs_pager.proofs.pager.Pager.ready.Goals as goal

pub returns-clause-carries : goal.returns-clause-carries
returns-clause-carries g c =
    let d = g.D.Disk in
    let i = c.self.inside in
    let s : Paged _ = record {
      disk = i.disk;
      limit = i.limit;
      changes = i.changes;
      clean = i.clean;
      committed_fields = i.committed_fields;
      working = i.working;
      is_header_changed = i.is_header_changed;
      is_begun = i.is_begun;
      full_refusals = i.full_refusals;
      under_way = i.under_way;
    } in
    let u = c.list.new.self in
    let fresh : s.under_way.stage ≡ Fresh = search rules in
    let still : u.stage ≡ Fresh = c.list.ensures.stage ∙ fresh in
    let header : IsSecondHeader u.first_page s.committed_fields = subst (λ (page : List _). IsSecondHeader page s.committed_fields) (sym c.list.ensures.first_page) c.second_page-first_page.ensures.header in
    let size : length u.first_page ≡ PAGE_SIZE = ap (λ (page : List _). length page) c.list.ensures.first_page ∙ c.second_page-first_page.ensures.size in
    λ pages. subst (λ (old : Paged _). IsTied d old → IsKept d old pages → OnOk c.list.result (CarriesOn d (record s { clean = c.clear.new.self; under_way = u }) pages)) c.self.view_is
    (λ tied is. on_ok_map c.list.result (λ lists.
    subst (λ (clean : Clean). CarriesOn d (record s { clean = clean; under_way = u }) pages) (sym c.clear.ensures)
    (subst (λ (stage : Stage). CarriesOn d (record s { clean = []; under_way = record u { stage = stage } }) pages) (sym still)
    (ready_carries d s pages tied is c.self.invariant fresh u lists header size))) c.list.ensures.lists)
