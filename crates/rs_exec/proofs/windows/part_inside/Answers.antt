use Rattle.std.proofs.Common.{sym, ◌∙◌}
use Rattle.rs_exec.proofs.Lists.{more, end}
use Rattle.rs_exec.proofs.WindowLaws.{narrows-none, narrows-more, narrows-off, narrows-all, narrows-empty, narrows-room}
use Rattle.rs_exec.proofs.windows.part_inside.Goals as goal

pub loop-window-init : goal.loop-window-init
loop-window-init c = narrows-none c.args.route c.args.windows.now

pub returns-then-route_of-route-clause-none : goal.returns-then-route_of-route-clause-none
returns-then-route_of-route-clause-none c =
    narrows-off c.args.route c.args.windows.now _ _ c.window-item.result c.loop-window.part c.loop-window.invariant
    (more c.args.windows.now c.loop-window.window-index c.window-item.result c.loop-window-test.true c.window-item.is) (λ e. c.if-route_of-route.true (c.route_of.ensures ∙ e))

pub loop-window-preserved : goal.loop-window-preserved
loop-window-preserved c =
    narrows-more c.args.route c.args.windows.now _ _ c.window-item.result c.loop-window.part c.narrowed-part.result c.loop-window.invariant
    (more c.args.windows.now c.loop-window.window-index c.window-item.result c.loop-window-test.true c.window-item.is) (sym c.route_of.ensures ∙ c.if-route_of-route.false) c.narrowed-part.ensures

pub returns-then-is_empty-clause-none : goal.returns-then-is_empty-clause-none
returns-then-is_empty-clause-none c =
    narrows-empty c.args.route c.args.windows.now _ c.loop-window.part c.loop-window.invariant (end c.args.windows.now c.loop-window.window-index c.loop-window-test.false) (c.is_empty.ensures.empty c.if-is_empty.true)

pub returns-clause-part : goal.returns-clause-part
returns-clause-part c =
    narrows-all c.args.route c.args.windows.now _ c.loop-window.part c.loop-window.invariant (end c.args.windows.now c.loop-window.window-index c.loop-window-test.false)

pub returns-clause-some : goal.returns-clause-some
returns-clause-some c =
    narrows-room c.args.route c.args.windows.now _ c.loop-window.part c.loop-window.invariant (end c.args.windows.now c.loop-window.window-index c.loop-window-test.false) (c.is_empty.ensures.room c.if-is_empty.false)
