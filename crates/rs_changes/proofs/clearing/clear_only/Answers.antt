-- Records are cleared, and the directory is written.
use Rattle.std.proofs.Common.{Err}
use Rattle.std.proofs.lemmas.Result.{err_from_is_err_and}
use Rattle.rs_file_parts.specs.Calls.{HoldsNoDirectory}
use Rattle.rs_file_parts.specs.Parts.{HoldsNoParts}
use Rattle.rs_changes.proofs.ClearedOnly.{clears_file, may_after, none_cleared}
use Rattle.rs_changes.proofs.Wholes.{leaves_refused, part_refused, stored_by_works, storing_by_works}
use Rattle.rs_changes.proofs.clearing.clear_only.Goals as goal
use Rattle.rs_file_parts.proofs.Ready.{ready_after}

pub returns-in_err-gone-clause-leaves : goal.returns-in_err-gone-clause-leaves
returns-in_err-gone-clause-leaves g c =
    let p = err_from_is_err_and c.from_residual.result c.from_residual.ensures.1 in
    rw (p.1, p.2) (part_refused g.P.Pages c.args.file.now c.in_err-gone.field-0.0 c.args.pages.now c.clear.new.pages c.in_err-gone.ensures.leaves)

pub write_directory-requires-clause-ready : goal.write_directory-requires-clause-ready
write_directory-requires-clause-ready g c = ready_after c.args.file.now c.clear.new.file c.in_ok-gone.ensures.keeps c.requires.may.ready

pub returns-in_err-write_directory-clause-leaves : goal.returns-in_err-write_directory-clause-leaves
returns-in_err-write_directory-clause-leaves g c =
    let old = g.P.Pages.store c.args.pages.now in
    let mid = g.P.Pages.store c.clear.new.pages in
    let p = err_from_is_err_and c.from_residual-in_err-write_directory.result c.from_residual-in_err-write_directory.ensures.1 in
    let tied_too = g.met.P.Pages.keeps_tied c.args.pages.now c.clear.new.pages c.in_ok-gone.ensures.leaves.keeps in
    rw (p.1, p.2) (leaves_refused g.P.Pages c.args.file.now (g.P.Pages.is_tied c.clear.new.pages → HoldsNoDirectory mid.map) c.in_err-write_directory.field-0.0
    c.args.pages.now c.clear.new.pages c.write_directory.new.pages
    (g.met.P.Pages.keeps_trans c.args.pages.now c.clear.new.pages c.write_directory.new.pages c.in_ok-gone.ensures.leaves.keeps c.in_err-write_directory.ensures.leaves.keeps)
    (stored_by_works (g.P.Pages.is_tied c.args.pages.now → HoldsNoParts old.map c.args.file.now) c.in_ok-gone.gone old mid c.in_ok-gone.ensures.leaves.works)
    (λ none tied. none_cleared c.args.oldest 64 c.in_ok-gone.gone old.map mid.map c.args.file.now c.clear.new.file (c.in_ok-gone.ensures.clears tied) (none (tied_too tied)))
    (storing_by_works (g.P.Pages.is_tied c.clear.new.pages → HoldsNoDirectory mid.map) (Err c.in_err-write_directory.field-0.0) mid (g.P.Pages.store c.write_directory.new.pages)
    c.in_err-write_directory.ensures.leaves.works))

pub returns-clause-clears : goal.returns-clause-clears
returns-clause-clears g c = λ tied.
    clears_file c.args.oldest 64 c.in_ok-gone.gone (g.P.Pages.store c.args.pages.now).map (g.P.Pages.store c.clear.new.pages).map c.args.file.now c.clear.new.file
    (c.in_ok-gone.ensures.clears tied) (g.P.Pages.store c.write_directory.new.pages).map c.in_ok-gone.ensures.keeps.accepted
    (c.in_ok-write_directory.ensures.writes (g.met.P.Pages.keeps_tied c.args.pages.now c.clear.new.pages c.in_ok-gone.ensures.leaves.keeps tied))

pub returns-clause-may : goal.returns-clause-may
returns-clause-may g c =
    may_after c.args.file.now c.clear.new.file c.in_ok-gone.ensures.keeps c.requires.may (c.in_ok-gone.ensures.order c.args.file.now.accepted c.requires.may.order)
