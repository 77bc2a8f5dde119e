use Rattle.std.proofs.Common.{◌≡◌, ◌++◌, length, string_bytes, ap, ◌∙◌, arith}
use Rattle.std.proofs.lemmas.Result.{on_ok_weaker}
use Rattle.rs_plan.proofs.LineLaws.{overlay-text, window-text}
use Rattle.rs_plan.proofs.explaining.push_node.Goals as goal

pub returns-in-Overlay : goal.returns-in-Overlay
returns-in-Overlay c =
    let n : c.len-in-Overlay.result ≡ length c.in-Overlay.operands.items = omega (arith, c.len-in-Overlay.ensures, c.in-Overlay.operands.ok.0) in
    on_ok_weaker c.push_counted-in-Overlay.result (λ e. e ∙ ap (λ l. string_bytes c.args.text.now ++ l) (overlay-text c.args.plan.now _ c.in-Overlay.operands c.in-Overlay.is c.len-in-Overlay.result n))
    c.push_counted-in-Overlay.ensures

pub returns-in-Window : goal.returns-in-Window
returns-in-Window c =
    let n : c.len-in-Window.result ≡ length c.in-Window.windows.items = omega (arith, c.len-in-Window.ensures, c.in-Window.windows.ok.0) in
    on_ok_weaker c.push_counted-in-Window.result (λ e. e ∙ ap (λ l. string_bytes c.args.text.now ++ l) (window-text c.args.plan.now c.in-Window.windows _ c.in-Window.is c.len-in-Window.result n))
    c.push_counted-in-Window.ensures
