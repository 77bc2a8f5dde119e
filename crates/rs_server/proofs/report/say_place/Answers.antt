use Rattle.std.proofs.Common.{◌++◌, ℕ, List, subst}
use Rattle.rs_protocol.specs.Puts.{Puts}
use Rattle.rs_server.specs.Saying.{place_line}
use Rattle.rs_server.proofs.Saying.{place_from_parts}
use Rattle.rs_server.proofs.report.say_place.Goals as goal

pub returns : goal.returns
returns g c =
    let before = g.E.Write.contents c.args.errors.now in
    let after = g.E.Write.contents c.put_parts.new.writer in
    let puts = place_from_parts _ c.put_parts.result c.args.line.now c.as_bytes.result.now c.as_bytes-2.result.now before after c.put_parts.ensures in
    let placed = subst (λ (place : List ℕ). Puts c.put_parts.result (c.args.line.now ++ place_line place c.as_bytes-2.result.now) before after) c.as_bytes.ensures.value puts in
    subst (λ (words : List ℕ). Puts c.put_parts.result (c.args.line.now ++ place_line c.args.place.now words) before after) c.as_bytes-2.ensures.value placed
