use Rattle.rs_answers.specs.Routes.{entry_of}
use Rattle.rs_answers.specs.Versions.{lines_seen_on}
use Rattle.rs_cursor.proofs.Steps.{kept-ahead, route-gives}
use Rattle.rs_cursor.proofs.next_lines.push_formed.Goals as goal
use Rattle.rs_serve.specs.ReplyView.{rows_of}
use Rattle.std.proofs.Common.{◌≡◌, ◌∙◌, ap, subst, sym}
use Rattle.std.proofs.lemmas.Option.{same_Some}
use Rattle.std.specs.FinMap as names
use Rattle.std.specs.List.{slice_get}
use Rattle.rs_catalog.specs.Definitions.{RouteItem}
use Rattle.rs_facts.specs.Fact.{Name}
use Rattle.std.specs.Prelude.{IfSome, None, Option, Some}
use Rattle.rs_answers.specs.Resumed.{IsMarked}
use Rattle.rs_answers.specs.Versions.{SeenVersion}
use Rattle.rs_answers.specs.declared.resuming.Mark.{Mark}
use Rattle.rs_catalog.specs.declared.entries.NamedRoute.{NamedRoute}
use Rattle.rs_cursor.specs.Kept.{AreFormed, IsRouteAt}
use Rattle.rs_cursor.specs.declared.kept.KeptLines.{KeptLines}
use Rattle.rs_cursor.specs.declared.place.Place.{Place}
use Rattle.rs_methods.specs.declared.position.Method.{Method}
use Rattle.rs_plan.specs.declared.plan.Plan.{Plan}

-- the mark of the route at the place is right
mark-right : (shown : SeenVersion) (plan : Plan) (method : Method) (named : NamedRoute) (mark : Option Mark) (place : Place) (kept : Option KeptLines)
    → IfSome mark (λ one. (seen : SeenVersion) (asked : Plan) (by : Method) (other : NamedRoute) → IsRouteAt seen place.route other → IfSome kept (AreFormed seen asked by) → IsMarked seen asked other.route one)
    → IsRouteAt shown place.route named → IfSome kept (AreFormed shown plan method) → IfSome mark (IsMarked shown plan named.route)
mark-right shown plan method named None place kept is at formed = tt
mark-right shown plan method named (Some one) place kept is at formed = is shown plan method named at formed

pub returns-then-to-stop-clause-gives : goal.returns-then-to-stop-clause-gives
returns-then-to-stop-clause-gives g c = record {
  at = λ versions is.
      let cursor = c.args.cursor.now in
      let stop = c.args.stop.now in
      let shown = versions cursor.version in
      let portion = c.in_ok-rest.ensures.gives shown is.0.shows is.0.lies is.0.at.shown (mark-right shown cursor.plan cursor.method stop.named.now c.mark_on-mark.result stop.place c.args.kept.now c.mark_on-mark.ensures is.0.at is.1) in
      route-gives (lines_seen_on shown cursor.plan cursor.method) (names.entries shown.routes) stop.place c.place_after-to.result (entry_of stop.named.now) stop.most c.in_ok-rest.rest.all
      (rows_of c.args.lines.now.items) (rows_of c.push_route_lines.new.rows.items) is.0.at.there portion.counts c.place_after-to.ensures.stays c.place_after-to.ensures.moves_on portion.gives;
}

pub returns-else-to-stop-clause-gives : goal.returns-else-to-stop-clause-gives
returns-else-to-stop-clause-gives g c = record {
  at = λ versions is.
      let cursor = c.args.cursor.now in
      let stop = c.args.stop.now in
      let shown = versions cursor.version in
      let portion = c.in_ok-rest.ensures.gives shown is.0.shows is.0.lies is.0.at.shown (mark-right shown cursor.plan cursor.method stop.named.now c.mark_on-mark.result stop.place c.args.kept.now c.mark_on-mark.ensures is.0.at is.1) in
      route-gives (lines_seen_on shown cursor.plan cursor.method) (names.entries shown.routes) stop.place c.place_after-to.result (entry_of stop.named.now) stop.most c.in_ok-rest.rest.all
      (rows_of c.args.lines.now.items) (rows_of c.push_route_lines.new.rows.items) is.0.at.there portion.counts c.place_after-to.ensures.stays c.place_after-to.ensures.moves_on portion.gives;
}

pub returns-then-to-stop-clause-keeps : goal.returns-then-to-stop-clause-keeps
returns-then-to-stop-clause-keeps g c = λ shown is formed.
    let cursor = c.args.cursor.now in
    let stop = c.args.stop.now in
    let right = mark-right shown cursor.plan cursor.method stop.named.now c.mark_on-mark.result stop.place c.args.kept.now c.mark_on-mark.ensures is.at formed in
    let portion = c.in_ok-rest.ensures.gives shown is.shows is.lies is.at.shown right in
    let marks = c.in_ok-rest.ensures.marks shown is.shows is.lies is.at.shown right in
    let there : (on : Name × RouteItem) → slice_get (names.entries shown.routes) c.place_after-to.result.route ≡ Some on → entry_of stop.named.now ≡ on =
    λ on at. same_Some (entry_of stop.named.now) on (sym is.at.there ∙ ap (slice_get (names.entries shown.routes)) (sym c.if-to-stop.true) ∙ at) in
    record {
      at = kept-ahead shown cursor.plan cursor.method stop.place c.place_after-to.result stop.named.now stop.most c.in_ok-rest.rest.all (rows_of c.in_ok-rest.rest.ahead.items) is.at portion.counts
          c.place_after-to.ensures.stays c.place_after-to.ensures.moves_on c.if-to-stop.true portion.ahead;
      marked = λ on at. subst (λ (o : Name × RouteItem). IsMarked shown cursor.plan o.1 c.in_ok-rest.rest.mark) (there on at) marks.0;
      next = λ on at. subst (λ (o : Name × RouteItem). IsMarked shown cursor.plan o.1 c.in_ok-rest.rest.next) (there on at) marks.1;
    }
