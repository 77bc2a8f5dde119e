use Rattle.std.proofs.Common.{IsTrue, subst, sym, ◌∙◌}
use Rattle.rs_value.specs.Values.{is_text}
use Rattle.rs_value.proofs.EncodingSteps.{text_true, text_utf8, ok_some}
use Rattle.rs_value.proofs.encoding.text_of.Goals as goal

pub returns-in-Ok-clause-text : goal.returns-in-Ok-clause-text
returns-in-Ok-clause-text c =
    ok_some _ _ c.from.result c.ok.result c.ok.ensures.value
    (λ text is.
    let same = is ∙ c.in-Ok.ensures.cases.0 in
    let said = text_true c.args.bytes.now c.in-Ok.ensures.cases.1 (sym c.has_control.ensures ∙ c.if-has_control.false) in
    (subst (λ l. IsTrue (is_text l)) (sym same) said, same)) c.from.ensures.ok

pub returns-in-Err-clause-none : goal.returns-in-Err-clause-none
returns-in-Err-clause-none c is short = c.in-Err.ensures.cases.0 (text_utf8 c.args.bytes.now is)
