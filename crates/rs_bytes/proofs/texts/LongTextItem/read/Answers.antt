use Rattle.std.proofs.lemmas.Result.{err_from_is_err_and}
use Rattle.rs_bytes.specs.Codes.{SaysUtf8}
use Rattle.rs_bytes.proofs.Reading.{none_counted, none_behind, counted_read}
use Rattle.rs_bytes.proofs.texts.LongTextItem.read.Goals as goal

pub returns-in_err-count-clause-damaged : goal.returns-in_err-count-clause-damaged
returns-in_err-count-clause-damaged c =
    let p = err_from_is_err_and c.from_residual.result c.from_residual.ensures.1 in
    rw (p.1, p.2) (λ is. none_counted 2 SaysUtf8 c.args.reader.now (c.in_err-count.ensures.damaged is))

pub returns-in_err-text-clause-damaged : goal.returns-in_err-text-clause-damaged
returns-in_err-text-clause-damaged c =
    let p = err_from_is_err_and c.from_residual-in_err-text.result c.from_residual-in_err-text.ensures.1 in
    rw (p.1, p.2) (λ is. none_behind 2 SaysUtf8 c.args.reader.now c.read.new.reader c.in_ok-count.count c.from.result c.from.ensures c.in_ok-count.ensures.read (c.in_err-text.ensures.damaged is))

pub returns-clause-read : goal.returns-clause-read
returns-clause-read c = counted_read 2 SaysUtf8 _ _ _ c.in_ok-count.count c.from.result _ c.from.ensures c.in_ok-count.ensures.read c.in_ok-text.ensures.read
