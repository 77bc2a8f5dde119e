-- The definitions are written, and the change is completed.
use Rattle.std.proofs.Common.{◌+◌, sym, ap, subst, arith, ◌∙◌}
use Rattle.std.proofs.lemmas.Result.{err_from_is_err_and}
use Rattle.rs_catalog_pages.specs.Said.{said_catalogue}
use Rattle.rs_file.specs.Contents.{Contents}
use Rattle.rs_file_parts.specs.Calls.{ChangesDefinitions}
use Rattle.rs_file_parts.specs.Parts.{HoldsNoParts, KeepsCommitted}
use Rattle.rs_changes.specs.Garbage.{garbage_of}
use Rattle.rs_changes.proofs.Redefined.{accepted_stays, births_then, order_later, order_then, ready_then, stood_same}
use Rattle.rs_changes.proofs.Wholes.{changes_file, completion_refused, leaves_refused, makes_next, no_file, numbers_same, stood, stored_by_storing, stored_none}
use Rattle.rs_changes.proofs.definitions.redefine.Goals as goal
use Rattle.rs_file_parts.proofs.Ready.{keeps_none}

pub returns-in_err-former-clause-leaves : goal.returns-in_err-former-clause-leaves
returns-in_err-former-clause-leaves g c =
    let was = c.args.file.now in
    let old = g.P.Pages.store c.args.pages.now in
    let p = err_from_is_err_and c.from_residual.result c.from_residual.ensures.1 in
    rw (p.1, p.2) (leaves_refused g.P.Pages was (g.P.Pages.is_tied c.args.pages.now → HoldsNoParts old.map was) c.in_err-former.field-0.0 c.args.pages.now c.args.pages.now c.write_definitions.new.pages
    c.in_err-former.ensures.leaves.keeps (stored_none old) (λ none tied. no_file old.map was (none tied)) c.in_err-former.ensures.leaves.works)

pub returns-in_err-former-clause-opened : goal.returns-in_err-former-clause-opened
returns-in_err-former-clause-opened g c =
    let was = c.args.file.now in
    let p = err_from_is_err_and c.from_residual.result c.from_residual.ensures.1 in
    rw p.1 (record { next = tt; stays = subst (KeepsCommitted was) (sym c.in_err-former.ensures.stays) (keeps_none was) })

pub complete-requires-clause-ready : goal.complete-requires-clause-ready
complete-requires-clause-ready g c =
    ready_then c.args.definitions c.args.file.now c.write_definitions.new.file c.in_ok-former.former c.in_ok-former.ensures.former c.requires.may.opened.ready c.requires.same.tables c.requires.same.indexes

pub complete-requires-clause-order : goal.complete-requires-clause-order
complete-requires-clause-order g c =
    let was = c.args.file.now in
    order_then c.args.definitions was c.write_definitions.new.file c.in_ok-former.former c.in_ok-former.ensures.former (order_later was.accepted (was.accepted + 1) was (omega arith) c.requires.may.opened.order)

pub returns-in-Ok-clause-defines : goal.returns-in-Ok-clause-defines
returns-in-Ok-clause-defines g c = λ tied.
    let was = c.args.file.now in
    let between = c.write_definitions.new.file in
    let gives = c.in_ok-former.ensures.former in
    let listing = said_catalogue c.args.definitions in
    let old = (g.P.Pages.store c.args.pages.now).map in
    let mid = (g.P.Pages.store c.write_definitions.new.pages).map in
    changes_file old mid was between (ChangesDefinitions listing) (accepted_stays c.args.definitions was between c.in_ok-former.former gives)
    (makes_next (ChangesDefinitions listing) (ChangesDefinitions listing) old mid was between (λ contents now same is. is) (c.in_ok-former.ensures.defines tied was.accepted (was.accepted + 1) (omega arith)))
    c.args.oldest c.ended_since-ended.result (g.P.Pages.store c.complete.new.pages).map c.complete.new.file (c.ended_since-ended.ensures (garbage_of was) c.garbage-before.ensures)
    (λ contents now change. ap (λ (c : Contents). c.directory) change.rest)
    (λ contents holds opened. births_then c.args.definitions was between c.in_ok-former.former gives (was.accepted + 1) c.requires.may.births)
    (λ contents holds opened. numbers_same old contents was between (ap (λ d. (said_catalogue d).tables) gives.definitions_are ∙ c.requires.same.tables)
    (ap (λ d. (said_catalogue d).indexes) gives.definitions_are ∙ c.requires.same.indexes) holds opened)
    (λ contents holds opened. stood old contents was between (ap (λ d. (said_catalogue d).tables) gives.definitions_are ∙ c.requires.same.tables)
    (ap (λ d. (said_catalogue d).indexes) gives.definitions_are ∙ c.requires.same.indexes) (stood_same c.args.definitions was between c.in_ok-former.former gives) c.requires.committed holds opened)
    (c.in-Ok.ensures.completes (g.met.P.Pages.keeps_tied c.args.pages.now c.write_definitions.new.pages c.in_ok-former.ensures.leaves.keeps tied))

pub returns-in-Err-clause-leaves : goal.returns-in-Err-clause-leaves
returns-in-Err-clause-leaves g c =
    let was = c.args.file.now in
    let between = c.write_definitions.new.file in
    let listing = said_catalogue c.args.definitions in
    let old = g.P.Pages.store c.args.pages.now in
    let mid = g.P.Pages.store c.write_definitions.new.pages in
    let keeps = c.in_ok-former.ensures.leaves.keeps in
    completion_refused g.P.Pages was c.in-Err.refused c.args.pages.now c.write_definitions.new.pages c.complete.new.pages between (ChangesDefinitions listing)
    (accepted_stays c.args.definitions was between c.in_ok-former.former c.in_ok-former.ensures.former)
    (g.met.P.Pages.keeps_trans c.args.pages.now c.write_definitions.new.pages c.complete.new.pages keeps c.in-Err.ensures.leaves.keeps)
    (g.met.P.Pages.keeps_tied c.args.pages.now c.write_definitions.new.pages keeps)
    (stored_by_storing (g.P.Pages.is_tied c.args.pages.now → HoldsNoParts old.map was) c.in_ok-former.former old mid c.in_ok-former.ensures.leaves.works)
    (λ tied. makes_next (ChangesDefinitions listing) (ChangesDefinitions listing) old.map mid.map was between (λ contents now same is. is)
    (c.in_ok-former.ensures.defines tied was.accepted (was.accepted + 1) (omega arith)))
    c.in-Err.ensures.leaves
