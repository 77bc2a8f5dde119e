use Rattle.std.proofs.Common.{◌==◌, ◌+◌, Some, None, drop, sym, ap, ◌∙◌, subst, arith}
use Rattle.std.specs.Prelude.{IfNone}
use Rattle.std.specs.List.{AllByRecursion, list_any}
use Rattle.rs_exec.specs.Routes.{numbers_of}
use Rattle.rs_exec.specs.Windows.{AreOff}
use Rattle.rs_exec.proofs.Lists.{more}
use Rattle.rs_exec.proofs.WindowLaws.{off-each, off-all}
use Rattle.rs_exec.proofs.windows.part_seen.Goals as goal

pub returns-then-not-is_among-clause-none : goal.returns-then-not-is_among-clause-none
returns-then-not-is_among-clause-none c =
    off-each c.args.windows.now (drop (0 + 1) c.args.windows.now) c.index-windows-0.result (numbers_of c.args.routes)
    (more c.args.windows.now 0 c.index-windows-0.result (omega (arith, c.requires)) c.index-windows-0.is)
    (ap (λ route. list_any (λ other. route == other) (numbers_of c.args.routes)) (sym c.route_of-route.ensures) ∙ sym c.is_among.ensures ∙ c.if-not-is_among.true)

pub returns-in_err-part-clause-none : goal.returns-in_err-part-clause-none
returns-in_err-part-clause-none c =
    let off = off-all c.args.windows.now (drop (0 + 1) c.args.windows.now) c.index-windows-0.result (numbers_of c.args.routes)
    (more c.args.windows.now 0 c.index-windows-0.result (omega (arith, c.requires)) c.index-windows-0.is)
    (subst (AreOff c.args.windows.now) c.route_of-route.ensures c.in_err-part.ensures.none) in
    elim c.from_residual.result as (λ o. IfNone o (AllByRecursion (AreOff c.args.windows.now) (numbers_of c.args.routes))) [ None ↦ off | Some seen ↦ tt ]
