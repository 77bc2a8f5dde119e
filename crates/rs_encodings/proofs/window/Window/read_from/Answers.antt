use Rattle.std.proofs.Common.{◌≤◌, length, take, sym, arith}
use Rattle.std.proofs.lemmas.Result.{err_from_is_err_and}
use Rattle.rs_encodings.proofs.Windows.{grown, kept}
use Rattle.rs_encodings.proofs.window.Window.read_from.Goals as goal

pub returns-in_err-count-clause-err : goal.returns-in_err-count-clause-err
returns-in_err-count-clause-err g c =
    let window = c.args.self.now in
    let within : window.end ≤ length window.bytes = omega arith in
    let p = err_from_is_err_and c.from_residual.result c.from_residual.ensures.1 in
    rw p.1 (kept window.bytes c.read.new.buf window.start window.end _ window.ordered within, c.in_err-count.ensures.bytes)

pub returns-clause-ok : goal.returns-clause-ok
returns-clause-ok g c =
    let window = c.args.self.now in
    let within : window.end ≤ length window.bytes = omega arith in
    let n = c.in_ok-count.count in
    let bound = c.in_ok-count.ensures.bound in
    (take n c.read.new.buf, sym bound.1, grown window.bytes c.read.new.buf window.start window.end _ n window.ordered within bound.0, c.in_ok-count.ensures.bytes.0)
