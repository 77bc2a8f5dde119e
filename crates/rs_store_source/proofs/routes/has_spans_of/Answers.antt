-- The spans of the whole route are those that the version sees.
use Rattle.std.proofs.Common.{Err}
use Rattle.std.proofs.lemmas.Result.{err_from_is_err_and}
use Rattle.rs_store_source.proofs.Facts.{read_says}
use Rattle.rs_store_source.proofs.Passing.{wants_counted}
use Rattle.rs_store_source.proofs.routes.has_spans_of.Goals as goal

pub returns-in_err-spans-clause-wants : goal.returns-in_err-spans-clause-wants
returns-in_err-spans-clause-wants g c =
    let p = err_from_is_err_and c.from_residual.result c.from_residual.ensures.1 in
    rw (p.1, p.2) (wants_counted g.D.Disk (Err c.in_err-spans.field-0.0) c.args.store.now c.spans.new.self c.in_err-spans.ensures.refused c.in_err-spans.ensures.count
    (λ damaged. record { none = λ oldest state stands. c.in_err-spans.ensures.sound stands.contents stands.keeps damaged }))

pub returns-clause-says : goal.returns-clause-says
returns-clause-says g c =
    let law = c.spans_within_hold_what_the_table_holds.ensures in
    read_says g.D.Disk law.placed law.rows c.args.store.now c.args.table c.args.route c.accepted-accepted.result c.in_ok-spans.spans c.is_empty.result c.accepted-accepted.ensures c.is_empty.ensures
    c.in_ok-spans.ensures.gives
