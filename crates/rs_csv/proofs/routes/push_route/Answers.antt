use Rattle.std.proofs.Common.{◌∙◌, ◌++◌, ◌∷◌, [], ap, subst}
use Rattle.std.specs.Prelude.{IsUtf8}
use Rattle.std.proofs.lemmas.Result.{on_ok_weaker}
use Rattle.rs_csv.proofs.RouteLines.{route_asks}
use Rattle.rs_csv.proofs.routes.push_route.Goals as goal

pub returns : goal.returns
returns c =
    let line = c.as_str.ensures.value ∙ c.in_ok-line.ensures in
    let start = c.route_ends-start.result.0 in
    let finish = c.route_ends-start.result.1 in
    on_ok_weaker c.push_line.result
    (λ grown. record {
      start = start;
      finish = finish;
      between = c.route_ends-start.ensures.between;
      asks = λ named. route_asks c.args.session c.args.name.bytes start finish c.requires named c.route_ends-start.ensures.measures.0 c.route_ends-start.ensures.measures.1 (subst IsUtf8 line c.as_str.utf8);
      grown = grown ∙ ap (λ bytes. c.args.lines.now.items ++ bytes ++ 10 ∷ []) line;
    })
    c.push_line.ensures
