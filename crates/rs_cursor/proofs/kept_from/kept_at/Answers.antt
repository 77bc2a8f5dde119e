use Rattle.std.proofs.Common.{◌≡◌, ◌-◌, ◌≤◌, ◌∙◌, List, Some, None, ap, drop, subst, sym}
use Rattle.std.proofs.lemmas.List.{drop-map}
use Rattle.std.specs.Prelude.{IfSome, Option, string_bytes}
use Rattle.rs_answers.specs.Versions.{SeenVersion}
use Rattle.rs_cursor.proofs.Steps.{kept-later}
use Rattle.rs_cursor.proofs.kept_from.kept_at.Goals as goal
use Rattle.rs_cursor.specs.Kept.{AreFormed, AreLinesAt}
use Rattle.rs_cursor.specs.declared.kept.KeptLines.{KeptLines}
use Rattle.rs_cursor.specs.declared.kept_from.KeptFrom.{KeptFrom}
use Rattle.rs_cursor.specs.declared.place.Place.{Place}
use Rattle.rs_machine.specs.State.{RowText}
use Rattle.rs_methods.specs.declared.position.Method.{Method}
use Rattle.rs_plan.specs.declared.plan.Plan.{Plan}
use Rattle.rs_serve.specs.ReplyView.{rows_of}

found-at : (kept : Option KeptLines) (one : KeptLines) → kept ≡ Some one → (place : Place) (found : Option KeptFrom)
    → IfSome found (λ from. place.route ≡ one.route) → IfSome found (λ from. one.first ≤ place.given) → IfSome found (λ from. from.all ≡ one.all)
    → IfSome found (λ from. from.lines.now ≡ drop (place.given - one.first) one.lines.items)
    → IfSome found (λ from. (shown : SeenVersion) (plan : Plan) (method : Method) → IfSome kept (AreFormed shown plan method) → AreLinesAt shown plan method place from.all (rows_of from.lines.now))
found-at kept one is place None same past all lines = lines
found-at kept one is place (Some from) same past all lines = λ shown plan method are.
    let left : drop (place.given - one.first) (rows_of one.lines.items) ≡ rows_of from.lines.now = drop-map string_bytes (place.given - one.first) one.lines.items ∙ ap rows_of (sym lines) in
    subst (λ n. AreLinesAt shown plan method place n (rows_of from.lines.now)) (sym all)
    (subst (λ (l : List RowText). AreLinesAt shown plan method place one.all l) left
    (kept-later shown plan method (record { route = one.route; given = one.first }) place one.all (rows_of one.lines.items) same past
    (subst (λ (o : Option KeptLines). IfSome o (AreFormed shown plan method)) is are).at))

pub returns-in-Some-clause-lines : goal.returns-in-Some-clause-lines
returns-in-Some-clause-lines c =
    found-at c.args.kept.now c.in-Some.one c.in-Some.is c.args.place c.at.result c.at.ensures.route c.at.ensures.past c.at.ensures.all c.at.ensures.lines
