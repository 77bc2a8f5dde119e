-- The definitions are written, and then the directory that says them.
use Rattle.std.proofs.Common.{◌+◌, Err, refl, arith}
use Rattle.std.proofs.lemmas.Result.{err_from_is_err_and}
use Rattle.rs_catalog_pages.specs.Said.{said_catalogue}
use Rattle.rs_file.specs.declared.opened.OpenedFile.{OpenedFile}
use Rattle.rs_file_parts.specs.Calls.{HoldsNoDirectory}
use Rattle.rs_file_parts.specs.Parts.{HoldsNoParts}
use Rattle.rs_changes.specs.Tables.{HoldsNoneBeside}
use Rattle.rs_file_parts.proofs.Written.{stores_err}
use Rattle.rs_changes.proofs.Next.{next_by_directory, no_directory_beside, none_beside}
use Rattle.rs_changes.proofs.Wholes.{stored_by_storing, stored_err, storing_by_works}
use Rattle.rs_changes.proofs.tables.write_next.Goals as goal

pub returns-in_err-former-clause-leaves : goal.returns-in_err-former-clause-leaves
returns-in_err-former-clause-leaves g c =
    let was = c.args.file.now in
    let old = g.P.Pages.store c.args.pages.now in
    let p = err_from_is_err_and c.from_residual.result c.from_residual.ensures.1 in
    record {
      keeps = c.in_err-former.ensures.leaves.keeps;
      stores = rw (p.1, p.2) (stores_err (g.P.Pages.is_tied c.args.pages.now → HoldsNoParts old.map was) (g.P.Pages.is_tied c.args.pages.now → HoldsNoneBeside old.map was) c.in_err-former.field-0.0
          old (g.P.Pages.store c.write_definitions.new.pages) (λ none tied. none_beside old.map was (none tied)) c.in_err-former.ensures.leaves.works);
    }

pub returns-in-Ok-clause-writes : goal.returns-in-Ok-clause-writes
returns-in-Ok-clause-writes g c = λ tied.
    let was : OpenedFile = c.args.file.now in
    let between : OpenedFile = c.write_definitions.new.file in
    next_by_directory (said_catalogue c.args.definitions) (g.P.Pages.store c.args.pages.now).map (g.P.Pages.store c.write_definitions.new.pages).map was between
    (c.in_ok-former.ensures.defines tied) (g.P.Pages.store c.write_directory.new.pages).map (record between { accepted = was.accepted + 1 }) (omega (arith, c.requires.room))
    (c.in-Ok.ensures.writes (g.met.P.Pages.keeps_tied c.args.pages.now c.write_definitions.new.pages c.in_ok-former.ensures.leaves.keeps tied)) c.requires.births refl

pub returns-in-Err-clause-leaves : goal.returns-in-Err-clause-leaves
returns-in-Err-clause-leaves g c =
    let was = c.args.file.now in
    let s0 = g.P.Pages.store c.args.pages.now in
    let s1 = g.P.Pages.store c.write_definitions.new.pages in
    let s2 = g.P.Pages.store c.write_directory.new.pages in
    record {
      keeps = g.met.P.Pages.keeps_trans c.args.pages.now c.write_definitions.new.pages c.write_directory.new.pages c.in_ok-former.ensures.leaves.keeps c.in-Err.ensures.leaves.keeps;
      stores = stored_err (g.P.Pages.is_tied c.args.pages.now → HoldsNoneBeside s0.map was) (g.P.Pages.is_tied c.write_definitions.new.pages → HoldsNoDirectory s1.map) c.in-Err.why s0 s1 s2
          (stored_by_storing (g.P.Pages.is_tied c.args.pages.now → HoldsNoParts s0.map was) c.in_ok-former.former s0 s1 c.in_ok-former.ensures.leaves.works)
          (λ none tied. no_directory_beside (said_catalogue c.args.definitions) s0.map s1.map was c.write_definitions.new.file (c.in_ok-former.ensures.defines tied)
          (none (g.met.P.Pages.keeps_tied c.args.pages.now c.write_definitions.new.pages c.in_ok-former.ensures.leaves.keeps tied)))
          (storing_by_works (g.P.Pages.is_tied c.write_definitions.new.pages → HoldsNoDirectory s1.map) (Err c.in-Err.why) s1 s2 c.in-Err.ensures.leaves.works);
    }
