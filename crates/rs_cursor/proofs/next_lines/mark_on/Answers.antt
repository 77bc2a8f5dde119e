-- The kept lines are lines of the one route that is at the place.
use Rattle.std.proofs.Common.{◌≡◌, ◌∙◌, ◌⊎◌, None, Option, Some, ap, inl, inr, subst, sym}
use Rattle.std.specs.FinMap as names
use Rattle.std.specs.List.{slice_get}
use Rattle.std.specs.Prelude.{IfSome}
use Rattle.rs_answers.specs.Resumed.{IsMarked}
use Rattle.rs_answers.specs.Routes.{entry_of}
use Rattle.rs_answers.specs.Versions.{SeenVersion}
use Rattle.rs_answers.specs.declared.resuming.Mark.{Mark}
use Rattle.rs_catalog.specs.declared.entries.NamedRoute.{NamedRoute}
use Rattle.rs_cursor.proofs.next_lines.mark_on.Goals as goal
use Rattle.rs_cursor.specs.Kept.{AreFormed, IsRouteAt}
use Rattle.rs_cursor.specs.declared.kept.KeptLines.{KeptLines}
use Rattle.rs_cursor.specs.declared.place.Place.{Place}
use Rattle.rs_methods.specs.declared.position.Method.{Method}
use Rattle.rs_plan.specs.declared.plan.Plan.{Plan}

marked-at : (kept : Option KeptLines) (one : KeptLines) → kept ≡ Some one → (place : Place) (found : Option Mark)
    → IfSome found (λ mark. place.route ≡ one.route) → IfSome found (λ mark. (mark ≡ one.mark) ⊎ (mark ≡ one.next))
    → IfSome found (λ mark. (shown : SeenVersion) (plan : Plan) (method : Method) (named : NamedRoute) → IsRouteAt shown place.route named → IfSome kept (AreFormed shown plan method) → IsMarked shown plan named.route mark)
marked-at kept one is place None same mark = tt
marked-at kept one is place (Some found) same mark = λ shown plan method named at formed.
    let are = subst (λ (o : Option KeptLines). IfSome o (AreFormed shown plan method)) is formed in
    let here = ap (slice_get (names.entries shown.routes)) (sym same) ∙ at.there in
    elim mark [
      | inl first ↦ subst (λ (m : Mark). IsMarked shown plan named.route m) (sym first) (are.marked (entry_of named) here)
      | inr later ↦ subst (λ (m : Mark). IsMarked shown plan named.route m) (sym later) (are.next (entry_of named) here)
    ]

pub returns-in-Some : goal.returns-in-Some
returns-in-Some c = marked-at c.args.kept.now c.in-Some.one c.in-Some.is c.args.place c.mark_at.result c.mark_at.ensures.route c.mark_at.ensures.mark
