-- What the parts say together is what it says.
use Rattle.std.proofs.lemmas.Result.{err_from_is_err_and}
use Rattle.rs_bytes.specs.Codes.{SaysBoth, SaysEach, SaysMany, SaysNumber}
use Rattle.rs_catalog_pages.specs.Directory.{SaysDirectory, SaysTree}
use Rattle.rs_catalog_pages.specs.Laws.{directory_parts}
use Rattle.rs_catalog_pages.proofs.Pieces.{none_as}
use Rattle.rs_catalog_pages.proofs.directory_items.StoredDirectoryItem.read.Goals as goal

pub returns-in_err-tables-clause-damaged : goal.returns-in_err-tables-clause-damaged
returns-in_err-tables-clause-damaged c =
    let p = err_from_is_err_and c.from_residual.result c.from_residual.ensures.1 in
    rw (p.1, p.2) (λ is. none_as (SaysBoth (SaysMany 128 (SaysEach SaysTree)) (SaysBoth (SaysMany 64 (SaysEach (SaysNumber 4))) (SaysBoth SaysTree (SaysNumber 8)))) SaysDirectory directory_parts (λ f y h. h) c.args.reader.now (c.in_err-tables.ensures.damaged is))
