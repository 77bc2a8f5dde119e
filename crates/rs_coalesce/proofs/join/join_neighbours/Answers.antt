use Rattle.std.proofs.Common.{◌≤◌, ◌++◌, length, map, drop, ap, ◌∙◌, arith}
use Rattle.std.proofs.lemmas.List.{take-take, take-append-le}
use Rattle.rs_facts.specs.Spans.{seen}
use Rattle.rs_coalesce.specs.Joined.{joined}
use Rattle.rs_coalesce.proofs.join.join_neighbours.Goals as goal

pub returns : goal.returns
returns c =
    let within = c.join_in_place-left.ensures.within in
    let fits : c.join_in_place-left.result ≤ c.args.spans.now.len = omega (arith, within, c.join_in_place-left.auto.spans, c.as_mut_slice.ensures.len) in
    ap (map seen) (c.truncate.ensures.items
    ∙ take-take c.join_in_place-left.result c.args.spans.now.len (c.join_in_place-left.new.spans ++ drop (length c.join_in_place-left.new.spans) c.args.spans.now.items) fits
    ∙ take-append-le c.join_in_place-left.result c.join_in_place-left.new.spans (drop (length c.join_in_place-left.new.spans) c.args.spans.now.items) within)
    ∙ c.join_in_place-left.ensures.joined
    ∙ ap (λ spans. joined c.args.kind (map seen spans)) c.as_mut_slice.ensures.value
