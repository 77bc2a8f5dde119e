use Rattle.std.proofs.Common.{[], append-nil, subst, sym, ◌∙◌, true≢false}
use Rattle.std.proofs.lemmas.Result.{err_from_is_err_and}
use Rattle.rs_bytes.proofs.Reading.{none_whole}
use Rattle.rs_bytes.proofs.item.read_whole.Goals as goal

pub returns-in_err-item-clause-damaged : goal.returns-in_err-item-clause-damaged
returns-in_err-item-clause-damaged g c =
    let p = err_from_is_err_and c.from_residual.result c.from_residual.ensures.1 in
    rw (p.1, p.2) (λ is value said. (c.in_err-item.ensures.damaged is).none value [] (record { front = c.args.bytes.now; is = c.new-reader.ensures ∙ sym (append-nil c.args.bytes.now); said = said }))

pub returns-else-is_empty-clause-damaged : goal.returns-else-is_empty-clause-damaged
returns-else-is_empty-clause-damaged g c is value said =
    none_whole g.T.Item.says g.met.T.Item.one _ _ _ c.in_ok-item.ensures.read (λ empty. absurd (true≢false (sym (c.is_empty.ensures.1 empty) ∙ c.if-is_empty.false))) value
    (subst (λ b. g.T.Item.says b value) (sym c.new-reader.ensures) said)
