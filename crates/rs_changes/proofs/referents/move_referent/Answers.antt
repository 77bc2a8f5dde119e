use Rattle.std.proofs.Common.{◌∙◌, ◌+◌, Err, sym, subst}
use Rattle.std.proofs.lemmas.Result.{err_from_is_err_and}
use Rattle.rs_file_parts.specs.Parts.{HaveAllDiedBy, HoldsNoParts}
use Rattle.rs_change_laws.specs.Parts.{EndsReferent, MovesReferent}
use Rattle.rs_changes.specs.Garbage.{garbage_of}
use Rattle.rs_changes.proofs.ReferentWholes.{ends_next, moves_beside, moves_next, no_file_before}
use Rattle.rs_changes.proofs.Wholes.{changes_file, completion_refused, leaves_refused, numbers_stay, part_refused, routes_stay, stood_kept, stored_by_works, stored_then, storing_by_works}
use Rattle.rs_file_parts.proofs.Ready.{keeps_then, ready_after}
use Rattle.rs_changes.proofs.referents.move_referent.Goals as goal

pub returns-in_err-end_referent-clause-leaves : goal.returns-in_err-end_referent-clause-leaves
returns-in_err-end_referent-clause-leaves g c =
    let p = err_from_is_err_and c.from_residual.result c.from_residual.ensures.1 in
    rw (p.1, p.2) (part_refused g.P.Pages c.args.file.now c.in_err-end_referent.field-0.0 c.args.pages.now c.end_referent.new.pages c.in_err-end_referent.ensures.leaves)

pub returns-in_err-put_referent-clause-leaves : goal.returns-in_err-put_referent-clause-leaves
returns-in_err-put_referent-clause-leaves g c =
    let was = c.args.file.now in
    let between = c.end_referent.new.file in
    let old = g.P.Pages.store c.args.pages.now in
    let mid = g.P.Pages.store c.end_referent.new.pages in
    let new = g.P.Pages.store c.put_referent.new.pages in
    let p = err_from_is_err_and c.from_residual-in_err-put_referent.result c.from_residual-in_err-put_referent.ensures.1 in
    rw (p.1, p.2) (leaves_refused g.P.Pages was (g.P.Pages.is_tied c.end_referent.new.pages → HoldsNoParts mid.map between) c.in_err-put_referent.field-0.0
    c.args.pages.now c.end_referent.new.pages c.put_referent.new.pages
    (g.met.P.Pages.keeps_trans c.args.pages.now c.end_referent.new.pages c.put_referent.new.pages c.in_ok-end_referent.ensures.leaves.keeps c.in_err-put_referent.ensures.leaves.keeps)
    (stored_by_works (g.P.Pages.is_tied c.args.pages.now → HoldsNoParts old.map was) c.in_ok-end_referent.field-0 old mid c.in_ok-end_referent.ensures.leaves.works)
    (λ none tied. no_file_before old.map mid.map was between (EndsReferent c.args.referent.now.route c.args.referent.now.name.bytes)
    (ends_next old.map mid.map was between c.args.referent.now.route c.args.referent.now.name.bytes c.in_ok-end_referent.field-0 (c.in_ok-end_referent.ensures.ends tied))
    (none (g.met.P.Pages.keeps_tied c.args.pages.now c.end_referent.new.pages c.in_ok-end_referent.ensures.leaves.keeps tied)))
    (storing_by_works (g.P.Pages.is_tied c.end_referent.new.pages → HoldsNoParts mid.map between) (Err c.in_err-put_referent.field-0.0) mid new c.in_err-put_referent.ensures.leaves.works))

pub returns-in_err-put_referent-clause-opened : goal.returns-in_err-put_referent-clause-opened
returns-in_err-put_referent-clause-opened g c =
    let p = err_from_is_err_and c.from_residual-in_err-put_referent.result c.from_residual-in_err-put_referent.ensures.1 in
    rw p.1 (record { next = tt; stays = keeps_then c.args.file.now c.end_referent.new.file c.put_referent.new.file c.in_ok-end_referent.ensures.keeps c.in_err-put_referent.ensures.keeps })

pub complete-requires-clause-ready : goal.complete-requires-clause-ready
complete-requires-clause-ready g c =
    ready_after c.args.file.now c.put_referent.new.file
    (keeps_then c.args.file.now c.end_referent.new.file c.put_referent.new.file c.in_ok-end_referent.ensures.keeps c.in_ok-put_referent.ensures.keeps) c.requires.may.opened.ready

pub complete-requires-clause-order : goal.complete-requires-clause-order
complete-requires-clause-order g c =
    subst (λ n. HaveAllDiedBy (n + 1) c.put_referent.new.file) (sym (c.in_ok-put_referent.ensures.keeps.accepted ∙ c.in_ok-end_referent.ensures.keeps.accepted))
    (c.in_ok-put_referent.ensures.order (c.args.file.now.accepted + 1) c.in_ok-end_referent.ensures.order)

pub returns-in_err-complete-clause-leaves : goal.returns-in_err-complete-clause-leaves
returns-in_err-complete-clause-leaves g c =
    let was = c.args.file.now in
    let file = c.end_referent.new.file in
    let between = c.put_referent.new.file in
    let old = g.P.Pages.store c.args.pages.now in
    let half = g.P.Pages.store c.end_referent.new.pages in
    let mid = g.P.Pages.store c.put_referent.new.pages in
    let kept = g.met.P.Pages.keeps_trans c.args.pages.now c.end_referent.new.pages c.put_referent.new.pages c.in_ok-end_referent.ensures.leaves.keeps c.in_ok-put_referent.ensures.leaves.keeps in
    let p = err_from_is_err_and c.from_residual-in_err-complete.result c.from_residual-in_err-complete.ensures.1 in
    rw (p.1, p.2) (completion_refused g.P.Pages was c.in_err-complete.field-0.0 c.args.pages.now c.put_referent.new.pages c.complete.new.pages between
    (MovesReferent c.args.referent.now.route c.args.referent.now.name.bytes c.args.referent.now.measure) (c.in_ok-put_referent.ensures.keeps.accepted ∙ c.in_ok-end_referent.ensures.keeps.accepted)
    (g.met.P.Pages.keeps_trans c.args.pages.now c.put_referent.new.pages c.complete.new.pages kept c.in_err-complete.ensures.leaves.keeps)
    (g.met.P.Pages.keeps_tied c.args.pages.now c.put_referent.new.pages kept)
    (stored_then old half mid
    (stored_by_works (g.P.Pages.is_tied c.args.pages.now → HoldsNoParts old.map was) c.in_ok-end_referent.field-0 old half c.in_ok-end_referent.ensures.leaves.works)
    (stored_by_works (g.P.Pages.is_tied c.end_referent.new.pages → HoldsNoParts half.map file) c.in_ok-put_referent.field-0 half mid c.in_ok-put_referent.ensures.leaves.works))
    (λ tied. moves_next old.map mid.map was between c.args.referent.now.route c.args.referent.now.name.bytes half.map file c.in_ok-end_referent.field-0 c.args.referent.now.measure (c.in_ok-end_referent.ensures.ends tied)
    (c.in_ok-put_referent.ensures.puts (g.met.P.Pages.keeps_tied c.args.pages.now c.end_referent.new.pages c.in_ok-end_referent.ensures.leaves.keeps tied)))
    c.in_err-complete.ensures.leaves)

pub returns-in_err-complete-clause-opened : goal.returns-in_err-complete-clause-opened
returns-in_err-complete-clause-opened g c =
    let p = err_from_is_err_and c.from_residual-in_err-complete.result c.from_residual-in_err-complete.ensures.1 in
    rw p.1 (record {
      next = tt;
      stays = keeps_then c.args.file.now c.put_referent.new.file c.complete.new.file
          (keeps_then c.args.file.now c.end_referent.new.file c.put_referent.new.file c.in_ok-end_referent.ensures.keeps c.in_ok-put_referent.ensures.keeps) c.in_err-complete.ensures.keeps;
    })

pub returns-clause-moves : goal.returns-clause-moves
returns-clause-moves g c = λ tied.
    let was = c.args.file.now in
    let file = c.end_referent.new.file in
    let between = c.put_referent.new.file in
    let old = g.P.Pages.store c.args.pages.now in
    let half = g.P.Pages.store c.end_referent.new.pages in
    let mid = g.P.Pages.store c.put_referent.new.pages in
    let then = g.met.P.Pages.keeps_tied c.args.pages.now c.end_referent.new.pages c.in_ok-end_referent.ensures.leaves.keeps tied in
    let keeps = keeps_then was file between c.in_ok-end_referent.ensures.keeps c.in_ok-put_referent.ensures.keeps in
    changes_file old.map mid.map was between (MovesReferent c.args.referent.now.route c.args.referent.now.name.bytes c.args.referent.now.measure) keeps.accepted
    (moves_next old.map mid.map was between c.args.referent.now.route c.args.referent.now.name.bytes half.map file c.in_ok-end_referent.field-0 c.args.referent.now.measure (c.in_ok-end_referent.ensures.ends tied) (c.in_ok-put_referent.ensures.puts then))
    c.args.oldest c.ended_since-ended.result (g.P.Pages.store c.complete.new.pages).map c.complete.new.file (c.ended_since-ended.ensures (garbage_of was) c.garbage-before.ensures) (moves_beside c.args.referent.now.route c.args.referent.now.name.bytes c.args.referent.now.measure)
    (λ contents holds opened. routes_stay old.map contents was between keeps.definitions holds opened)
    (λ contents holds opened. numbers_stay old.map contents was between keeps.definitions holds opened)
    (λ contents holds opened. stood_kept old.map contents was between keeps c.requires.may.committed holds opened)
    (c.in_ok-complete.ensures.completes (g.met.P.Pages.keeps_tied c.end_referent.new.pages c.put_referent.new.pages c.in_ok-put_referent.ensures.leaves.keeps then))
