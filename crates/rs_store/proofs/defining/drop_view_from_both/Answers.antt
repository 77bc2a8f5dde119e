-- What the file was refused stays in memory, and what went out of it goes out of memory.
use Rattle.std.proofs.Common.{◌≤◌, ◌+◌, Ok, Err, Result, inl, refl, subst, sym}
use Rattle.std.proofs.lemmas.Result.{err_from_is_err_and}
use Rattle.std.specs.List.{AllByRecursion}
use Rattle.rs_catalog.specs.Changes as changes
use Rattle.rs_catalog_pages.specs.Items.{CatalogueItems, RouteItem}
use Rattle.rs_file_parts.specs.Calls.{ChangesDefinitions}
use Rattle.rs_refusal.specs.declared.refusal.Refusal.TheVariants as refusal
use Rattle.rs_store.specs.Rewriting.{Rewrites}
use Rattle.rs_stored_catalog.specs.Listing.{listing_of}
use Rattle.rs_store.proofs.Rewritten.{redefines_none}
use Rattle.rs_store.proofs.Settled.{births_listed}
use Rattle.rs_store.proofs.defining.drop_view_from_both.Goals as goal
use Rattle.rs_refusal.specs.declared.refusal.Refusal.{Refusal}

pub rewrite-requires-clause-births : goal.rewrite-requires-clause-births
rewrite-requires-clause-births g c =
    subst (λ (items : CatalogueItems). AllByRecursion (λ (route : RouteItem). route.born ≤ c.args.file.now.accepted + 1) items.routes) (sym c.in_ok-definitions.ensures)
    (births_listed c.args.file.now c.args.catalog.now c.requires.rests)

pub returns-in_err-rewrite : goal.returns-in_err-rewrite
returns-in_err-rewrite g c =
    let refused : Result (Unit {0}) Refusal = Err c.in_err-rewrite.field-0.0 in
    let p = err_from_is_err_and c.from_residual-in_err-rewrite.result c.from_residual-in_err-rewrite.ensures.1 in
    rw (p.1, p.2) (record {
      rewrites = subst (λ (items : CatalogueItems). Rewrites g.P.Pages.is_tied g.P.Pages.store g.P.Pages.keeps c.args.oldest (ChangesDefinitions items) items refused c.args.pages.now c.rewrite.new.pages
          c.args.file.now c.rewrite.new.file) c.in_ok-definitions.ensures c.in_err-rewrite.ensures;
      made = tt;
      back = refl;
    })

pub returns : goal.returns
returns g c =
    let done : Result (Unit {0}) Refusal = Ok (tt {0}) in
    record {
      rewrites = subst (λ (items : CatalogueItems). Rewrites g.P.Pages.is_tied g.P.Pages.store g.P.Pages.keeps c.args.oldest (ChangesDefinitions items) items done c.args.pages.now c.rewrite.new.pages
          c.args.file.now c.rewrite.new.file) c.in_ok-definitions.ensures c.in_ok-rewrite.ensures;
      made = c.drop_view.ensures;
      back = tt;
    }

pub returns-in_err-definitions : goal.returns-in_err-definitions
returns-in_err-definitions g c =
    let was = c.args.catalog.now in
    let next = changes.without_view was c.args.name.now.bytes in
    let p = err_from_is_err_and c.from_residual.result c.from_residual.ensures.1 in
    rw (p.1, p.2) (redefines_none g.P.Pages c.args.oldest (ChangesDefinitions (listing_of next)) next refusal.OutOfMemory c.args.pages.now c.args.file.now was was
    (g.met.P.Pages.keeps_refl c.args.pages.now) (inl refl) refl)
