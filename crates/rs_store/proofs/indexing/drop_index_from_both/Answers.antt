-- What the file was refused stays in memory, and what went out of it goes out of memory.
use Rattle.std.proofs.Common.{refl}
use Rattle.std.proofs.lemmas.Result.{err_from_is_err_and}
use Rattle.rs_store.proofs.indexing.drop_index_from_both.Goals as goal

pub returns-in_err-erase_index : goal.returns-in_err-erase_index
returns-in_err-erase_index g c =
    let p = err_from_is_err_and c.from_residual.result c.from_residual.ensures.1 in
    rw (p.1, p.2) (record { rewrites = c.in_err-erase_index.ensures; made = tt; back = refl })

pub returns : goal.returns
returns g c = record { rewrites = c.in_ok-erase_index.ensures; made = c.drop_index.ensures; back = tt }
