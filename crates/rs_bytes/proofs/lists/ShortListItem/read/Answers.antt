use Rattle.std.proofs.lemmas.Result.{err_from_is_err_and}
use Rattle.rs_bytes.specs.Codes.{SaysEach}
use Rattle.rs_bytes.proofs.Reading.{none_counted, none_behind, counted_read}
use Rattle.rs_bytes.proofs.lists.ShortListItem.read.Goals as goal

pub returns-in_err-count-clause-damaged : goal.returns-in_err-count-clause-damaged
returns-in_err-count-clause-damaged g c =
    let p = err_from_is_err_and c.from_residual.result c.from_residual.ensures.1 in
    rw (p.1, p.2) (λ is. none_counted 1 (SaysEach g.T.Item.says) c.args.reader.now (c.in_err-count.ensures.damaged is))

pub returns-in_err-list-clause-damaged : goal.returns-in_err-list-clause-damaged
returns-in_err-list-clause-damaged g c =
    let p = err_from_is_err_and c.from_residual-in_err-list.result c.from_residual-in_err-list.ensures.1 in
    rw (p.1, p.2) (λ is. none_behind 1 (SaysEach g.T.Item.says) c.args.reader.now c.read.new.reader c.in_ok-count.count c.from.result c.from.ensures c.in_ok-count.ensures.read (c.in_err-list.ensures.damaged is))

pub returns-clause-read : goal.returns-clause-read
returns-clause-read g c = counted_read 1 (SaysEach g.T.Item.says) _ _ _ c.in_ok-count.count c.from.result _ c.from.ensures c.in_ok-count.ensures.read c.in_ok-list.ensures.read
