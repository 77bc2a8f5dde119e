use Rattle.std.proofs.Common.{◌≡◌, ◌++◌, ◌∷◌, [], length, length-append, ap, ◌∙◌, arith}
use Rattle.std.proofs.lemmas.List.{nil_from_length}
use Rattle.std.proofs.lemmas.Result.{IfOk-weaker}
use Rattle.rs_plan.proofs.OverlayLaws.{several-together, alone-together}
use Rattle.rs_plan.proofs.overlays.together.Goals as goal

pub returns-then-len-ne1 : goal.returns-then-len-ne1
returns-then-len-ne1 c =
    IfOk-weaker c.overlay.result _ _ (λ one is. several-together c.args.operands.items one (λ e. c.if-len-ne1.true (omega (arith, e, c.len.ensures, c.args.operands.ok.0))) is) c.overlay.ensures

pub returns-in-Some : goal.returns-in-Some
returns-in-Some c =
    let whole = c.in-Some.ensures.items in
    let none : length c.pop.new.self.items ≡ 0 = omega (arith, ap length whole, length-append c.pop.new.self.items (c.in-Some.operand ∷ []), c.if-len-ne1.false, c.len.ensures, c.args.operands.ok.0) in
    alone-together c.args.operands.items c.in-Some.operand (whole ∙ ap (λ l. l ++ c.in-Some.operand ∷ []) (nil_from_length c.pop.new.self.items none))
