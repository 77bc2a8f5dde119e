-- Where no memory is left for the list of the definitions, no page is changed.
use Rattle.std.proofs.Common.{inl, refl}
use Rattle.std.proofs.lemmas.Result.{err_from_is_err_and}
use Rattle.rs_file_parts.specs.Calls.{ChangesDefinitions}
use Rattle.rs_refusal.specs.declared.refusal.Refusal.TheVariants as refusal
use Rattle.rs_store.proofs.Rewritten.{rewrites_unmade}
use Rattle.rs_store.proofs.rewriting.write_definitions_of.Goals as goal
use Rattle.rs_stored_catalog.specs.Listing.{listing_of}

pub returns-in_err-definitions : goal.returns-in_err-definitions
returns-in_err-definitions g c =
    let items = listing_of c.args.catalog.now in
    let p = err_from_is_err_and c.from_residual.result c.from_residual.ensures.1 in
    rw (p.1, p.2) (rewrites_unmade g.P.Pages c.args.oldest (ChangesDefinitions items) items refusal.OutOfMemory c.args.pages.now c.args.file.now (g.met.P.Pages.keeps_refl c.args.pages.now) (inl refl))
