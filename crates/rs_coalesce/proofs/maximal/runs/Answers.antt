use Rattle.std.proofs.Common.{map, subst}
use Rattle.rs_facts.specs.Spans.{seen}
use Rattle.rs_coalesce.specs.Joined.{AreApart}
use Rattle.rs_coalesce.proofs.InTurn.{made-in_turn}
use Rattle.rs_coalesce.proofs.Whole.{Made, made}
use Rattle.rs_coalesce.proofs.maximal.runs.Goals as goal

one_apart : (c : goal.After-join_neighbours) → Made c.args.kind c.args.spans.items c.join_neighbours.new.spans.items
one_apart c =
    let apart : AreApart (map seen c.args.spans.items) = subst (λ spans. AreApart (map seen spans)) c.as_slice.ensures.value (c.are_apart.ensures.0 c.if-are_apart.true) in
    made-in_turn c.args.kind c.args.spans.items c.join_neighbours.new.spans.items c.requires.placed apart c.join_neighbours.ensures

pub returns-then-are_apart-clause-runs : goal.returns-then-are_apart-clause-runs
returns-then-are_apart-clause-runs c = (one_apart c).runs

pub returns-then-are_apart-clause-placed : goal.returns-then-are_apart-clause-placed
returns-then-are_apart-clause-placed c = (one_apart c).placed

pub returns-then-are_apart-clause-same : goal.returns-then-are_apart-clause-same
returns-then-are_apart-clause-same c = (one_apart c).same

of_any : (c : goal.After-sort_by_place) → Made c.args.kind c.args.spans.items c.sort_by_place.new.spans.items
of_any c = made c.args.kind c.args.spans.items c.join_any.new.spans.items c.sort_by_place.new.spans.items c.join_any.ensures.joined c.join_any.ensures.placed c.join_any.ensures.same c.sort_by_place.ensures.moved c.sort_by_place.ensures.sorted

pub returns-else-are_apart-clause-runs : goal.returns-else-are_apart-clause-runs
returns-else-are_apart-clause-runs c = (of_any c).runs

pub returns-else-are_apart-clause-placed : goal.returns-else-are_apart-clause-placed
returns-else-are_apart-clause-placed c = (of_any c).placed

pub returns-else-are_apart-clause-same : goal.returns-else-are_apart-clause-same
returns-else-are_apart-clause-same c = (of_any c).same
