-- The pager is opened, and then what its pages stand for.
use Rattle.std.proofs.Common.{◌≡◌, ◌∙◌, ℕ, Ok, Err, true, ap, inl, inr, refl, subst, sym}
use Rattle.std.specs.Prelude.{◌≢◌}
use Rattle.std.proofs.lemmas.Result.{err_from_is_err_and}
use Rattle.rs_disk.specs.Content.{Content}
use Rattle.rs_page.specs.declared.file_header.TheConstants.{FLAG_OFFSET}
use Rattle.rs_pager.specs.Paged.{Paged}
use Rattle.rs_pager.proofs.Recovered.{recovered-at, recovered-err}
use Rattle.rs_pager.proofs.Versions.{first-shut}
use Rattle.rs_refusal.specs.declared.refusal.Refusal.{Refusal}
use Rattle.rs_store.specs.Calls.{Opens, PreservesFile}
use Rattle.rs_store.specs.Kept.{StoreState}
use Rattle.rs_store.proofs.Files.{lacks_first, opens_err, opens_none, opens_ok, opens_state, still_recovered}
use Rattle.rs_store.proofs.Surviving.{preserves_none, preserves_opened, preserves_refused}
use Rattle.rs_store.proofs.store.Store.open.Goals as goal

pub returns-in_err-pager-clause-opens : goal.returns-in_err-pager-clause-opens
returns-in_err-pager-clause-opens g c = λ honest.
    let d = g.D.Disk in
    let back = c.in_err-pager.field-0.0 in
    let p = err_from_is_err_and c.from_residual.result c.from_residual.ensures.1 in
    rw (p.1, p.2) (opens_none d c.args.limit c.args.disk back.0 back.1
    (λ is. elim c.in_err-pager.ensures.refused [ inl e ↦ absurd (cc (is, e)) | inr (inl e) ↦ absurd (cc (is, e)) | inr (inr e) ↦ absurd (cc (is, e)) ])
    (c.in_err-pager.ensures.damaged honest)
    (λ map pages are gives.
    recovered-err d {T = Paged _} {E = _ × Refusal} {T' = StoreState _} {E' = _ × Refusal} pages back back c.args.disk back.0 (c.in_err-pager.ensures.recovers pages honest are.says gives)))

pub returns-in-Ok-clause-opens : goal.returns-in-Ok-clause-opens
returns-in-Ok-clause-opens g c = λ honest.
    let d = g.D.Disk in
    let content = d.seen c.args.disk in
    let first = c.in_ok-pager.pager in
    let now = c.open_pages.new.pager in
    let loaded = c.in-Ok.loaded in
    let opened = c.in_ok-pager.ensures.opened honest in
    let seen : first.is_header_changed ≡ true → d.seen first.disk ≡ content =
    λ lacks. (c.in_ok-pager.ensures.shut honest (first-shut content first.committed_fields (lacks_first d c.args.limit content first c.in_ok-pager.ensures.fresh c.in_ok-pager.ensures.same opened lacks).header)).reads honest in
    let state = opens_state d c.args.limit content first c.in_ok-pager.ensures.fresh c.in_ok-pager.ensures.same opened now loaded.file loaded.catalog loaded.referents
    c.in-Ok.ensures.opens (c.in-Ok.ensures.loads opened.tied)
    (λ lacks. subst (λ (c : Content). c.byte FLAG_OFFSET ≡ 0) (seen lacks) (c.in-Ok.ensures.closed opened.tied.honest lacks)) in
    subst (λ (s : StoreState g.row.D.Denot). Opens d c.args.limit c.args.disk (Ok s)) (sym c.store_of.ensures)
    (opens_ok d c.args.limit c.args.disk _ state (λ map pages are gives.
    still_recovered d c.args.disk first now _ opened c.open_pages.ensures.read c.in_ok-pager.ensures.keeping
    (λ pages says gives. c.in_ok-pager.ensures.recovers pages honest says gives) map pages are gives))

pub returns-in-Err-clause-opens : goal.returns-in-Err-clause-opens
returns-in-Err-clause-opens g c = λ honest.
    let d = g.D.Disk in
    let content = d.seen c.args.disk in
    let first = c.in_ok-pager.pager in
    let now = c.open_pages.new.pager in
    let opened = c.in_ok-pager.ensures.opened honest in
    let seen : first.is_header_changed ≡ true → d.seen first.disk ≡ content =
    λ lacks. (c.in_ok-pager.ensures.shut honest (first-shut content first.committed_fields (lacks_first d c.args.limit content first c.in_ok-pager.ensures.fresh c.in_ok-pager.ensures.same opened lacks).header)).reads honest in
    opens_err d c.args.limit c.args.disk c.disk_stands_for_one_map.ensures first c.into_disk.result c.in-Err.refusal
    c.in_ok-pager.ensures.fresh c.in_ok-pager.ensures.same opened
    (λ is. c.in-Err.ensures.damaged opened.tied (ap Err is))
    (λ is. let left = c.in-Err.ensures.left_open opened.tied (ap Err is) in
    (left.0, left.1, subst (λ (c : Content). c.byte FLAG_OFFSET ≢ 0) (seen left.0) left.2))
    (λ map pages are gives. recovered-at d pages _ c.args.disk now.disk c.into_disk.result c.into_disk.ensures
    (still_recovered d c.args.disk first now _ opened c.open_pages.ensures.read c.in_ok-pager.ensures.keeping
    (λ pages says gives. c.in_ok-pager.ensures.recovers pages honest says gives) map pages are gives))

-- ---- what is left of the file

pub returns-in_err-pager-clause-preserves : goal.returns-in_err-pager-clause-preserves
returns-in_err-pager-clause-preserves g c = λ honest.
    let d = g.D.Disk in
    let back = c.in_err-pager.field-0.0 in
    let p = err_from_is_err_and c.from_residual.result c.from_residual.ensures.1 in
    rw (p.1, p.2) (preserves_none d c.args.limit c.args.disk honest back.0 back.1 c.in_err-pager.ensures.keeping
    (λ other. elim c.in_err-pager.ensures.refused [
      | inl memory ↦ c.in_err-pager.ensures.untouched memory honest
      | inr (inl failed) ↦ absurd (other failed)
      | inr (inr damaged) ↦ c.in_err-pager.ensures.left honest damaged
    ]) (c.in_err-pager.ensures.shut honest)
    (λ pages says gives. c.in_err-pager.ensures.recovers pages honest says gives))

pub returns-in-Ok-clause-preserves : goal.returns-in-Ok-clause-preserves
returns-in-Ok-clause-preserves g c = λ honest.
    let d = g.D.Disk in
    let first = c.in_ok-pager.pager in
    let now = c.open_pages.new.pager in
    let opened = c.in_ok-pager.ensures.opened honest in
    subst (λ (s : StoreState g.row.D.Denot). PreservesFile d c.args.limit c.args.disk (Ok s)) (sym c.store_of.ensures)
    (preserves_opened d c.args.limit c.args.disk honest first now c.in_ok-pager.ensures.fresh c.in_ok-pager.ensures.same opened
    c.open_pages.ensures.read c.open_pages.ensures.endures c.in_ok-pager.ensures.keeping (c.in_ok-pager.ensures.shut honest)
    (λ pages says gives. c.in_ok-pager.ensures.recovers pages honest says gives) c.disk_stands_for_one_map.ensures (c.open_pages.ensures.unclosed opened.tied) _ refl)

pub returns-in-Err-clause-preserves : goal.returns-in-Err-clause-preserves
returns-in-Err-clause-preserves g c = λ honest.
    let d = g.D.Disk in
    let first = c.in_ok-pager.pager in
    let now = c.open_pages.new.pager in
    let opened = c.in_ok-pager.ensures.opened honest in
    preserves_refused d c.args.limit c.args.disk honest first now c.in_ok-pager.ensures.fresh c.in_ok-pager.ensures.same opened
    c.open_pages.ensures.read c.open_pages.ensures.endures c.in_ok-pager.ensures.keeping (c.in_ok-pager.ensures.shut honest)
    (λ pages says gives. c.in_ok-pager.ensures.recovers pages honest says gives) c.disk_stands_for_one_map.ensures (c.open_pages.ensures.unclosed opened.tied)
    c.into_disk.result c.in-Err.refusal c.into_disk.ensures
