use Rattle.std.proofs.Common.{◌∙◌, Some, ap, sym}
use Rattle.std.proofs.lemmas.Bool.{false≢true}
use Rattle.std.proofs.lemmas.Result.{IfOk-weaker}
use Rattle.rs_csv.proofs.made.is_only_text.Goals as goal

pub returns-then-not-plan-clause-only : goal.returns-then-not-plan-clause-only
returns-then-not-plan-clause-only c = λ is makes. absurd (false≢true (sym c.if-not-plan.true ∙ makes))

pub returns-clause-only : goal.returns-clause-only
returns-clause-only c =
    let told = c.requires.route in
    IfOk-weaker c.take_text.result _ _ (λ is_only known is makes. (told.0, told.1, known is ∙ ap (λ text. Some text) (c.route_text.ensures told.0 told.1))) c.take_text.ensures.only
