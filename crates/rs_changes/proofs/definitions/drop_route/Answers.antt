-- The route's referents end, the definitions are written, and the change is completed.
use Rattle.std.proofs.Common.{◌+◌, Err, refl, sym, subst, arith, ◌∙◌, ap}
use Rattle.std.proofs.lemmas.Result.{err_from_is_err_and}
use Rattle.rs_catalog_pages.specs.Said.{said_catalogue}
use Rattle.rs_file.specs.declared.opened.OpenedFile.{OpenedFile}
use Rattle.rs_file_parts.specs.Parts.{HoldsNoParts, KeepsCommitted}
use Rattle.rs_changes.specs.Ending.{HoldsNoReferents}
use Rattle.rs_file_parts.proofs.Made.{referents_made}
use Rattle.rs_file_parts.proofs.Ready.{ready_after}
use Rattle.rs_change_laws.specs.Parts.{DropsRoute, EndsAllOn}
use Rattle.rs_changes.specs.Garbage.{garbage_of}
use Rattle.rs_changes.proofs.Redefined.{accepted_stays, births_then, drops_stay, keeps_ended, makes_dropped, no_referents_no_file, none_ended, order_ended, order_then, ready_then, stood_same}
use Rattle.rs_changes.proofs.Wholes.{changes_file, completion_refused, leaves_refused, numbers_same, stood, stored_by_storing, stored_by_works, stored_none, stored_then, storing_by_works}
use Rattle.rs_changes.proofs.definitions.drop_route.Goals as goal

pub returns-in_err-end_referents_on-clause-leaves : goal.returns-in_err-end_referents_on-clause-leaves
returns-in_err-end_referents_on-clause-leaves g c =
    let was = c.args.file.now in
    let old = g.P.Pages.store c.args.pages.now in
    let damaged = g.P.Pages.is_tied c.args.pages.now → HoldsNoReferents old.map was.referents.working (was.accepted + 1) in
    let p = err_from_is_err_and c.from_residual.result c.from_residual.ensures.1 in
    rw (p.1, p.2) (leaves_refused g.P.Pages was damaged c.in_err-end_referents_on.field-0.0 c.args.pages.now c.args.pages.now c.end_referents_on.new.pages
    c.in_err-end_referents_on.ensures.leaves.keeps (stored_none old) (λ none tied. no_referents_no_file old.map was (none tied))
    (storing_by_works damaged (Err c.in_err-end_referents_on.field-0.0) old (g.P.Pages.store c.end_referents_on.new.pages) c.in_err-end_referents_on.ensures.leaves.works))

pub returns-in_err-end_referents_on-clause-opened : goal.returns-in_err-end_referents_on-clause-opened
returns-in_err-end_referents_on-clause-opened g c =
    let p = err_from_is_err_and c.from_residual.result c.from_residual.ensures.1 in
    rw p.1 (record { next = tt; stays = keeps_ended c.args.file.now c.end_referents_on.new.referents c.in_err-end_referents_on.ensures.committed })

pub returns-in_err-former-clause-leaves : goal.returns-in_err-former-clause-leaves
returns-in_err-former-clause-leaves g c =
    let was = c.args.file.now in
    let first : OpenedFile = record was { referents = c.end_referents_on.new.referents } in
    let old = g.P.Pages.store c.args.pages.now in
    let mid = g.P.Pages.store c.end_referents_on.new.pages in
    let ended = c.in_ok-end_referents_on.ensures in
    let p = err_from_is_err_and c.from_residual-in_err-former.result c.from_residual-in_err-former.ensures.1 in
    rw (p.1, p.2) (leaves_refused g.P.Pages was (g.P.Pages.is_tied c.end_referents_on.new.pages → HoldsNoParts mid.map first) c.in_err-former.field-0.0
    c.args.pages.now c.end_referents_on.new.pages c.write_definitions.new.pages
    (g.met.P.Pages.keeps_trans c.args.pages.now c.end_referents_on.new.pages c.write_definitions.new.pages ended.leaves.keeps c.in_err-former.ensures.leaves.keeps)
    (stored_by_works (g.P.Pages.is_tied c.args.pages.now → HoldsNoReferents old.map was.referents.working (was.accepted + 1)) (record {}) old mid ended.leaves.works)
    (λ none tied. none_ended old.map mid.map was first c.args.route
    (referents_made old.map mid.map was first was.accepted (was.accepted + 1) (EndsAllOn (was.accepted + 1) c.args.route) refl refl refl (omega arith) (ended.ends tied was.accepted (omega arith)))
    (none (g.met.P.Pages.keeps_tied c.args.pages.now c.end_referents_on.new.pages ended.leaves.keeps tied)))
    c.in_err-former.ensures.leaves.works)

pub returns-in_err-former-clause-opened : goal.returns-in_err-former-clause-opened
returns-in_err-former-clause-opened g c =
    let was = c.args.file.now in
    let p = err_from_is_err_and c.from_residual-in_err-former.result c.from_residual-in_err-former.ensures.1 in
    rw p.1 (record { next = tt; stays = subst (KeepsCommitted was) (sym c.in_err-former.ensures.stays) (keeps_ended was c.end_referents_on.new.referents c.in_ok-end_referents_on.ensures.committed) })

pub complete-requires-clause-ready : goal.complete-requires-clause-ready
complete-requires-clause-ready g c =
    let was = c.args.file.now in
    let first : OpenedFile = record was { referents = c.end_referents_on.new.referents } in
    ready_then c.args.definitions first c.write_definitions.new.file c.in_ok-former.former c.in_ok-former.ensures.former
    (ready_after was first (keeps_ended was c.end_referents_on.new.referents c.in_ok-end_referents_on.ensures.committed) c.requires.may.opened.ready) c.requires.same.tables c.requires.same.indexes

pub complete-requires-clause-order : goal.complete-requires-clause-order
complete-requires-clause-order g c =
    let was = c.args.file.now in
    let first : OpenedFile = record was { referents = c.end_referents_on.new.referents } in
    order_then c.args.definitions first c.write_definitions.new.file c.in_ok-former.former c.in_ok-former.ensures.former
    (order_ended was.accepted (was.accepted + 1) was c.end_referents_on.new.referents (omega arith) c.requires.may.opened.order c.in_ok-end_referents_on.ensures.order)

pub returns-in-Ok-clause-drops : goal.returns-in-Ok-clause-drops
returns-in-Ok-clause-drops g c = λ tied.
    let was = c.args.file.now in
    let first : OpenedFile = record was { referents = c.end_referents_on.new.referents } in
    let between = c.write_definitions.new.file in
    let former = c.in_ok-former.former in
    let gives = c.in_ok-former.ensures.former in
    let ended = c.in_ok-end_referents_on.ensures in
    let listing = said_catalogue c.args.definitions in
    let old = (g.P.Pages.store c.args.pages.now).map in
    let half = (g.P.Pages.store c.end_referents_on.new.pages).map in
    let mid = (g.P.Pages.store c.write_definitions.new.pages).map in
    let tied_half = g.met.P.Pages.keeps_tied c.args.pages.now c.end_referents_on.new.pages ended.leaves.keeps tied in
    changes_file old mid was between (DropsRoute c.args.route listing) (accepted_stays c.args.definitions first between former gives)
    (makes_dropped old half was first c.args.route mid between listing
    (referents_made old half was first was.accepted (was.accepted + 1) (EndsAllOn (was.accepted + 1) c.args.route) refl refl refl (omega arith) (ended.ends tied was.accepted (omega arith)))
    (c.in_ok-former.ensures.defines tied_half (was.accepted + 1) (was.accepted + 1) (omega arith)))
    c.args.oldest c.ended_since-ended.result (g.P.Pages.store c.complete.new.pages).map c.complete.new.file (c.ended_since-ended.ensures (garbage_of was) c.garbage-before.ensures)
    (drops_stay c.args.route listing)
    (λ contents holds opened. births_then c.args.definitions first between former gives (was.accepted + 1) c.requires.may.births)
    (λ contents holds opened. numbers_same old contents was between (ap (λ d. (said_catalogue d).tables) gives.definitions_are ∙ c.requires.same.tables)
    (ap (λ d. (said_catalogue d).indexes) gives.definitions_are ∙ c.requires.same.indexes) holds opened)
    (λ contents holds opened. stood old contents was between (ap (λ d. (said_catalogue d).tables) gives.definitions_are ∙ c.requires.same.tables)
    (ap (λ d. (said_catalogue d).indexes) gives.definitions_are ∙ c.requires.same.indexes) (stood_same c.args.definitions first between former gives) c.requires.committed holds opened)
    (c.in-Ok.ensures.completes (g.met.P.Pages.keeps_tied c.end_referents_on.new.pages c.write_definitions.new.pages c.in_ok-former.ensures.leaves.keeps tied_half))

pub returns-in-Err-clause-leaves : goal.returns-in-Err-clause-leaves
returns-in-Err-clause-leaves g c =
    let was = c.args.file.now in
    let first : OpenedFile = record was { referents = c.end_referents_on.new.referents } in
    let between = c.write_definitions.new.file in
    let ended = c.in_ok-end_referents_on.ensures in
    let listing = said_catalogue c.args.definitions in
    let old = g.P.Pages.store c.args.pages.now in
    let half = g.P.Pages.store c.end_referents_on.new.pages in
    let mid = g.P.Pages.store c.write_definitions.new.pages in
    let keeps = g.met.P.Pages.keeps_trans c.args.pages.now c.end_referents_on.new.pages c.write_definitions.new.pages ended.leaves.keeps c.in_ok-former.ensures.leaves.keeps in
    completion_refused g.P.Pages was c.in-Err.refused c.args.pages.now c.write_definitions.new.pages c.complete.new.pages between (DropsRoute c.args.route listing)
    (accepted_stays c.args.definitions first between c.in_ok-former.former c.in_ok-former.ensures.former)
    (g.met.P.Pages.keeps_trans c.args.pages.now c.write_definitions.new.pages c.complete.new.pages keeps c.in-Err.ensures.leaves.keeps)
    (g.met.P.Pages.keeps_tied c.args.pages.now c.write_definitions.new.pages keeps)
    (stored_then old half mid
    (stored_by_works (g.P.Pages.is_tied c.args.pages.now → HoldsNoReferents old.map was.referents.working (was.accepted + 1)) (record {}) old half ended.leaves.works)
    (stored_by_storing (g.P.Pages.is_tied c.end_referents_on.new.pages → HoldsNoParts half.map first) c.in_ok-former.former half mid c.in_ok-former.ensures.leaves.works))
    (λ tied. makes_dropped old.map half.map was first c.args.route mid.map between listing
    (referents_made old.map half.map was first was.accepted (was.accepted + 1) (EndsAllOn (was.accepted + 1) c.args.route) refl refl refl (omega arith) (ended.ends tied was.accepted (omega arith)))
    (c.in_ok-former.ensures.defines (g.met.P.Pages.keeps_tied c.args.pages.now c.end_referents_on.new.pages ended.leaves.keeps tied) (was.accepted + 1) (was.accepted + 1) (omega arith)))
    c.in-Err.ensures.leaves
