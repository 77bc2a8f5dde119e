-- What the file was refused stays in memory, and what went out of it goes out of memory.
use Rattle.std.proofs.Common.{refl}
use Rattle.std.proofs.lemmas.Result.{err_from_is_err_and}
use Rattle.rs_store.proofs.tabling.drop_table_from_both.Goals as goal

pub returns-in_err-erase_table : goal.returns-in_err-erase_table
returns-in_err-erase_table g c =
    let p = err_from_is_err_and c.from_residual.result c.from_residual.ensures.1 in
    rw (p.1, p.2) (record { rewrites = c.in_err-erase_table.ensures; made = tt; back = refl })

pub returns : goal.returns
returns g c = record { rewrites = c.in_ok-erase_table.ensures; made = c.drop_table.ensures; back = tt }
