-- What the parts say together is what it says.
use Rattle.std.proofs.lemmas.Result.{err_from_is_err_and}
use Rattle.rs_bytes.specs.Codes.{SaysBoth, SaysCounted, SaysEach}
use Rattle.rs_catalog_pages.specs.Items.{SaysAlignment, SaysCatalogue, SaysIndex, SaysRoute, SaysTable, SaysView}
use Rattle.rs_catalog_pages.specs.Laws.{catalogue_parts}
use Rattle.rs_catalog_pages.proofs.Pieces.{none_as}
use Rattle.rs_catalog_pages.proofs.items.StoredCatalogueItem.read.Goals as goal

pub returns-in_err-routes-clause-damaged : goal.returns-in_err-routes-clause-damaged
returns-in_err-routes-clause-damaged c =
    let p = err_from_is_err_and c.from_residual.result c.from_residual.ensures.1 in
    rw (p.1, p.2) (λ is. none_as (SaysBoth (SaysCounted 4 (SaysEach SaysRoute)) (SaysBoth (SaysCounted 4 (SaysEach SaysTable)) (SaysBoth (SaysCounted 4 (SaysEach SaysIndex)) (SaysBoth (SaysCounted 4 (SaysEach SaysView)) (SaysCounted 4 (SaysEach SaysAlignment)))))) SaysCatalogue catalogue_parts (λ f y h. h) c.args.reader.now (c.in_err-routes.ensures.damaged is))
