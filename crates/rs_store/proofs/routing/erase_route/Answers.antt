-- Definitions that can't be kept change no page, and others are what the file's call says.
use Rattle.std.proofs.Common.{inr}
use Rattle.std.proofs.lemmas.Result.{err_from_is_err_and}
use Rattle.rs_catalog_pages.specs.Said.{said_catalogue}
use Rattle.rs_changes.specs.Parts.{DropsRoute}
use Rattle.rs_store.proofs.Rewritten.{rewrites_by, rewrites_unmade}
use Rattle.rs_store.proofs.routing.erase_route.Goals as goal

pub returns-in_err-check_definitions : goal.returns-in_err-check_definitions
returns-in_err-check_definitions g c =
    let items = said_catalogue c.args.definitions in
    let p = err_from_is_err_and c.from_residual.result c.from_residual.ensures.1 in
    rw (p.1, p.2) (rewrites_unmade g.P.Pages c.args.oldest (DropsRoute c.args.number items) items c.in_err-check_definitions.field-0.0 c.args.pages.now c.args.file.now
    (g.met.P.Pages.keeps_refl c.args.pages.now) (inr (c.in_err-check_definitions.ensures.refused, c.in_err-check_definitions.ensures.none)))

pub drop_route-requires-clause-may : goal.drop_route-requires-clause-may
drop_route-requires-clause-may g c = record {
  begun = c.requires.begun;
  opened = c.requires.may;
  room = c.requires.room;
  fits = c.in_ok-check_definitions.ensures.fits;
  short = c.in_ok-check_definitions.ensures.short;
  births = c.requires.births;
}

pub returns : goal.returns
returns g c =
    rewrites_by g.P.Pages c.args.oldest (DropsRoute c.args.number (said_catalogue c.args.definitions)) c.args.definitions c.drop_route.result c.args.pages.now c.drop_route.new.pages c.args.file.now c.drop_route.new.file
    c.requires.births c.drop_route.ensures.leaves c.drop_route.ensures.drops c.drop_route.ensures.opened
