-- What the parts say together is what it says.
use Rattle.std.proofs.lemmas.Result.{err_from_is_err_and}
use Rattle.rs_bytes.specs.Codes.{SaysBoth, SaysCounted, SaysEach, SaysNumber}
use Rattle.rs_catalog_pages.specs.Items.{SaysColumn, SaysName, SaysTable}
use Rattle.rs_catalog_pages.specs.Laws.{table_parts}
use Rattle.rs_catalog_pages.proofs.Pieces.{none_as}
use Rattle.rs_catalog_pages.proofs.items.StoredTableItem.read.Goals as goal

pub returns-in_err-name-clause-damaged : goal.returns-in_err-name-clause-damaged
returns-in_err-name-clause-damaged c =
    let p = err_from_is_err_and c.from_residual.result c.from_residual.ensures.1 in
    rw (p.1, p.2) (λ is. none_as (SaysBoth SaysName (SaysBoth (SaysNumber 4) (SaysBoth (SaysNumber 1) (SaysCounted 1 (SaysEach SaysColumn))))) SaysTable table_parts (λ f y h. h) c.args.reader.now (c.in_err-name.ensures.damaged is))
