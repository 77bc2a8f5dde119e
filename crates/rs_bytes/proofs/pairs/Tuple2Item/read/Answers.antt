use Rattle.std.proofs.lemmas.Result.{err_from_is_err_and}
use Rattle.rs_bytes.proofs.Reading.{none_before, none_after, both_read}
use Rattle.rs_bytes.proofs.pairs.Tuple2Item.read.Goals as goal

pub returns-in_err-first-clause-damaged : goal.returns-in_err-first-clause-damaged
returns-in_err-first-clause-damaged g c =
    let p = err_from_is_err_and c.from_residual.result c.from_residual.ensures.1 in
    rw (p.1, p.2) (λ is. none_before g.A.Item.says g.B.Item.says _ (c.in_err-first.ensures.damaged is))

pub returns-in_err-second-clause-damaged : goal.returns-in_err-second-clause-damaged
returns-in_err-second-clause-damaged g c =
    let p = err_from_is_err_and c.from_residual-in_err-second.result c.from_residual-in_err-second.ensures.1 in
    rw (p.1, p.2) (λ is. none_after g.A.Item.says g.B.Item.says g.met.A.Item.one _ _ _ c.in_ok-first.ensures.read (c.in_err-second.ensures.damaged is))

pub returns-clause-read : goal.returns-clause-read
returns-clause-read g c = both_read g.A.Item.says g.B.Item.says _ _ _ _ _ c.in_ok-first.ensures.read c.in_ok-second.ensures.read
