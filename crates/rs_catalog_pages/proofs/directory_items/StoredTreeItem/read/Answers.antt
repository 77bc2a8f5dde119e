-- What the parts say together is what it says.
use Rattle.std.proofs.lemmas.Result.{err_from_is_err_and}
use Rattle.rs_bytes.specs.Codes.{SaysBoth, SaysNumber}
use Rattle.rs_catalog_pages.specs.Directory.{SaysTree}
use Rattle.rs_catalog_pages.specs.Laws.{tree_parts}
use Rattle.rs_catalog_pages.proofs.Pieces.{none_as}
use Rattle.rs_catalog_pages.proofs.directory_items.StoredTreeItem.read.Goals as goal

pub returns-in_err-root-clause-damaged : goal.returns-in_err-root-clause-damaged
returns-in_err-root-clause-damaged c =
    let p = err_from_is_err_and c.from_residual.result c.from_residual.ensures.1 in
    rw (p.1, p.2) (λ is. none_as (SaysBoth (SaysNumber 4) (SaysBoth (SaysNumber 8) (SaysNumber 8))) SaysTree tree_parts (λ f y h. h) c.args.reader.now (c.in_err-root.ensures.damaged is))
