use Rattle.std.proofs.Common.{◌+◌, sym, subst}
use Rattle.std.proofs.lemmas.Result.{err_from_is_err_and}
use Rattle.rs_file_parts.specs.Parts.{HaveAllDiedBy, HoldsNoParts}
use Rattle.rs_change_laws.specs.Parts.{EndsReferent}
use Rattle.rs_changes.specs.Garbage.{garbage_of}
use Rattle.rs_changes.proofs.ReferentWholes.{ends_beside, ends_next}
use Rattle.rs_changes.proofs.Wholes.{changes_file, completion_refused, numbers_stay, part_refused, routes_stay, stood_kept, stored_by_works}
use Rattle.rs_file_parts.proofs.Ready.{keeps_then, ready_after}
use Rattle.rs_changes.proofs.referents.drop_referent.Goals as goal

pub returns-in_err-end_referent-clause-leaves : goal.returns-in_err-end_referent-clause-leaves
returns-in_err-end_referent-clause-leaves g c =
    let p = err_from_is_err_and c.from_residual.result c.from_residual.ensures.1 in
    rw (p.1, p.2) (part_refused g.P.Pages c.args.file.now c.in_err-end_referent.field-0.0 c.args.pages.now c.end_referent.new.pages c.in_err-end_referent.ensures.leaves)

pub complete-requires-clause-ready : goal.complete-requires-clause-ready
complete-requires-clause-ready g c = ready_after c.args.file.now c.end_referent.new.file c.in_ok-end_referent.ensures.keeps c.requires.may.opened.ready

pub complete-requires-clause-order : goal.complete-requires-clause-order
complete-requires-clause-order g c =
    subst (λ n. HaveAllDiedBy (n + 1) c.end_referent.new.file) (sym c.in_ok-end_referent.ensures.keeps.accepted) (c.in_ok-end_referent.ensures.order)

pub returns-in_err-complete-clause-leaves : goal.returns-in_err-complete-clause-leaves
returns-in_err-complete-clause-leaves g c =
    let was = c.args.file.now in
    let between = c.end_referent.new.file in
    let old = g.P.Pages.store c.args.pages.now in
    let mid = g.P.Pages.store c.end_referent.new.pages in
    let p = err_from_is_err_and c.from_residual-in_err-complete.result c.from_residual-in_err-complete.ensures.1 in
    rw (p.1, p.2) (completion_refused g.P.Pages was c.in_err-complete.field-0.0 c.args.pages.now c.end_referent.new.pages c.complete.new.pages between
    (EndsReferent c.args.route c.args.name.now.bytes) c.in_ok-end_referent.ensures.keeps.accepted
    (g.met.P.Pages.keeps_trans c.args.pages.now c.end_referent.new.pages c.complete.new.pages c.in_ok-end_referent.ensures.leaves.keeps c.in_err-complete.ensures.leaves.keeps)
    (g.met.P.Pages.keeps_tied c.args.pages.now c.end_referent.new.pages c.in_ok-end_referent.ensures.leaves.keeps)
    (stored_by_works (g.P.Pages.is_tied c.args.pages.now → HoldsNoParts old.map was) c.in_ok-end_referent.field-0 old mid c.in_ok-end_referent.ensures.leaves.works)
    (λ tied. ends_next old.map mid.map was between c.args.route c.args.name.now.bytes c.in_ok-end_referent.field-0 (c.in_ok-end_referent.ensures.ends tied))
    c.in_err-complete.ensures.leaves)

pub returns-in_err-complete-clause-opened : goal.returns-in_err-complete-clause-opened
returns-in_err-complete-clause-opened g c =
    let p = err_from_is_err_and c.from_residual-in_err-complete.result c.from_residual-in_err-complete.ensures.1 in
    rw p.1 (record { next = tt; stays = keeps_then c.args.file.now c.end_referent.new.file c.complete.new.file c.in_ok-end_referent.ensures.keeps c.in_err-complete.ensures.keeps })

pub returns-clause-ends : goal.returns-clause-ends
returns-clause-ends g c = λ tied.
    let was = c.args.file.now in
    let between = c.end_referent.new.file in
    let old = g.P.Pages.store c.args.pages.now in
    let mid = g.P.Pages.store c.end_referent.new.pages in
    changes_file old.map mid.map was between (EndsReferent c.args.route c.args.name.now.bytes) c.in_ok-end_referent.ensures.keeps.accepted
    (ends_next old.map mid.map was between c.args.route c.args.name.now.bytes c.in_ok-end_referent.field-0 (c.in_ok-end_referent.ensures.ends tied))
    c.args.oldest c.ended_since-ended.result (g.P.Pages.store c.complete.new.pages).map c.complete.new.file (c.ended_since-ended.ensures (garbage_of was) c.garbage-before.ensures) (ends_beside c.args.route c.args.name.now.bytes)
    (λ contents holds opened. routes_stay old.map contents was between c.in_ok-end_referent.ensures.keeps.definitions holds opened)
    (λ contents holds opened. numbers_stay old.map contents was between c.in_ok-end_referent.ensures.keeps.definitions holds opened)
    (λ contents holds opened. stood_kept old.map contents was between c.in_ok-end_referent.ensures.keeps c.requires.may.committed holds opened)
    (c.in_ok-complete.ensures.completes (g.met.P.Pages.keeps_tied c.args.pages.now c.end_referent.new.pages c.in_ok-end_referent.ensures.leaves.keeps tied))
