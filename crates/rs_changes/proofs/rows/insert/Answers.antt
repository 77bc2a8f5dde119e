-- The table at its place has changed, and that is completed.
use Rattle.std.proofs.Common.{◌+◌, ℕ, List}
use Rattle.std.proofs.lemmas.Result.{err_from_is_err_and}
use Rattle.rs_change_laws.specs.Changing.{HoldsNoFile}
use Rattle.rs_changes.proofs.TakenRows.{TakesBy, same_directory, taken_file, taken_next}
use Rattle.rs_changes.proofs.TablesPlaced.{grown_by}
use Rattle.rs_changes.proofs.Wholes.{changes_file, completion_refused, numbers_stay, routes_stay, stood_kept, stored_by_storing}
use Rattle.rs_facts.specs.Spans.{seen}
use Rattle.rs_file.specs.declared.opened.OpenedFile.{OpenedFile}
use Rattle.rs_file_parts.proofs.Ready.{keeps_then, ready_after}
use Rattle.rs_pages.specs.PageMap.{PageMap}
use Rattle.rs_table_changes.specs.Changes.{Inserts}
use Rattle.rs_versioned.specs.Events.{Event}
use Rattle.rs_changes.proofs.rows.insert.Goals as goal

pub complete-requires-clause-ready : goal.complete-requires-clause-ready
complete-requires-clause-ready g c = ready_after c.args.file.now c.insert_in_place.new.file c.in_ok-count.ensures.keeps c.requires.may.opened.ready

pub returns-in_err-complete-clause-leaves : goal.returns-in_err-complete-clause-leaves
returns-in_err-complete-clause-leaves g c =
    let was : OpenedFile = c.args.file.now in
    let between : OpenedFile = c.insert_in_place.new.file in
    let place : ℕ = c.args.insertion.now.table in
    let by : ℕ → List Event → List Event → Type 0 = λ version. Inserts c.args.insertion.now.kind version (version + 1) c.args.insertion.now.route (seen c.args.insertion.now.span) c.in_ok-count.count in
    let old = g.P.Pages.store c.args.pages.now in
    let mid = g.P.Pages.store c.insert_in_place.new.pages in
    let p = err_from_is_err_and c.from_residual-in_err-complete.result c.from_residual-in_err-complete.ensures.1 in
    rw (p.1, p.2) (completion_refused g.P.Pages was c.in_err-complete.field-0.0 c.args.pages.now c.insert_in_place.new.pages c.complete.new.pages between (TakesBy c.args.oldest place by) c.in_ok-count.ensures.keeps.accepted
    (g.met.P.Pages.keeps_trans c.args.pages.now c.insert_in_place.new.pages c.complete.new.pages c.in_ok-count.ensures.leaves.keeps c.in_err-complete.ensures.leaves.keeps)
    (g.met.P.Pages.keeps_tied c.args.pages.now c.insert_in_place.new.pages c.in_ok-count.ensures.leaves.keeps)
    (stored_by_storing (g.P.Pages.is_tied c.args.pages.now → HoldsNoFile old.map was) c.in_ok-count.count old mid c.in_ok-count.ensures.leaves.stores)
    (λ tied. taken_next c.args.oldest place by old.map mid.map was between c.requires.may.room c.in_ok-count.ensures.more (c.in_ok-count.ensures.inserts tied))
    c.in_err-complete.ensures.leaves)

pub returns-in_err-complete-clause-opened : goal.returns-in_err-complete-clause-opened
returns-in_err-complete-clause-opened g c =
    let p = err_from_is_err_and c.from_residual-in_err-complete.result c.from_residual-in_err-complete.ensures.1 in
    rw p.1 (record { next = tt; stays = keeps_then c.args.file.now c.insert_in_place.new.file c.complete.new.file c.in_ok-count.ensures.keeps c.in_err-complete.ensures.keeps })

pub returns-clause-inserts : goal.returns-clause-inserts
returns-clause-inserts g c = λ tied.
    let was : OpenedFile = c.args.file.now in
    let between : OpenedFile = c.insert_in_place.new.file in
    let place : ℕ = c.args.insertion.now.table in
    let by : ℕ → List Event → List Event → Type 0 = λ version. Inserts c.args.insertion.now.kind version (version + 1) c.args.insertion.now.route (seen c.args.insertion.now.span) c.in_ok-count.count in
    let old : PageMap = (g.P.Pages.store c.args.pages.now).map in
    let mid : PageMap = (g.P.Pages.store c.insert_in_place.new.pages).map in
    let new : PageMap = (g.P.Pages.store c.complete.new.pages).map in
    taken_file c.args.oldest place by old new was c.complete.new.file
    (changes_file old mid was between (TakesBy c.args.oldest place by) c.in_ok-count.ensures.keeps.accepted
    (taken_next c.args.oldest place by old mid was between c.requires.may.room c.in_ok-count.ensures.more (c.in_ok-count.ensures.inserts tied))
    c.args.oldest c.saturating_sub-ended.result new c.complete.new.file
    (grown_by place was between c.requires.row.there c.in_ok-count.ensures.keeps c.in_ok-count.ensures.grows c.dead_at-before.result c.dead_at.result c.saturating_sub-ended.result
    c.dead_at-before.ensures c.dead_at.ensures c.saturating_sub-ended.ensures) (same_directory c.args.oldest place by)
    (λ contents holds opened. routes_stay old contents was between c.in_ok-count.ensures.keeps.definitions holds opened)
    (λ contents holds opened. numbers_stay old contents was between c.in_ok-count.ensures.keeps.definitions holds opened)
    (λ contents holds opened. stood_kept old contents was between c.in_ok-count.ensures.keeps c.requires.may.committed holds opened)
    (c.in_ok-complete.ensures.completes (g.met.P.Pages.keeps_tied c.args.pages.now c.insert_in_place.new.pages c.in_ok-count.ensures.leaves.keeps tied)))
