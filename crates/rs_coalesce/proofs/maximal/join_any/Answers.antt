use Rattle.std.proofs.Common.{◌≡◌, ◌∙◌, List, Vec, Global, map, ap, sym, subst}
use Rattle.rs_value.specs.declared.column.Kind.{Kind}
use Rattle.rs_facts.specs.declared.fact.Span.{Span}
use Rattle.rs_facts.specs.Spans.{seen, places_of, ArePlaced}
use Rattle.rs_coalesce.proofs.Whole.{Joined, joined-by_row}
use Rattle.rs_coalesce.proofs.maximal.join_any.Goals as goal
use Rattle.rs_coalesce.proofs.maximal.join_any.Goals.{else-begin_in_turn-via-then-begin_in_turn+else-join_in_turn, else-begin_in_turn-via-else-begin_in_turn}

-- what is sorted by row means what was given
record Before (kind : Kind) (given sorted : List Span) : Type 0 where
  placed : ArePlaced kind (map seen sorted)
  same : places_of (map seen sorted) ≡ places_of (map seen given)

before : (c : goal.After-join_neighbours) → Before c.args.kind c.args.spans.now.items c.else-begin_in_turn.spans.items
before c = elim c.else-begin_in_turn.branch [
  | else-begin_in_turn-via-then-begin_in_turn+else-join_in_turn w ↦ record {
    placed = subst (λ v. ArePlaced c.args.kind (map seen (v.items))) (sym w.spans-is) w.join_in_turn.ensures.placed;
    same = ap (λ (v : Vec Span Global). places_of (map seen v.items)) w.spans-is ∙ w.join_in_turn.ensures.same;
  }
  | else-begin_in_turn-via-else-begin_in_turn w ↦ record {
    placed = subst (λ v. ArePlaced c.args.kind (map seen (v.items))) (sym w.spans-is) c.requires.placed;
    same = ap (λ (v : Vec Span Global). places_of (map seen v.items)) w.spans-is;
  }
]

all_joined : (c : goal.After-join_neighbours) → Joined c.args.kind c.args.spans.now.items c.join_neighbours.new.spans.items
all_joined c =
    let first : Before c.args.kind c.args.spans.now.items c.else-begin_in_turn.spans.items = before c in
    let left = joined-by_row c.args.kind c.else-begin_in_turn.spans.items c.sort_by_row.new.spans.items c.join_neighbours.new.spans.items first.placed c.sort_by_row.ensures.moved c.sort_by_row.ensures.sorted c.join_neighbours.ensures in
    record { joined = left.joined; placed = left.placed; same = left.same ∙ first.same }

pub returns-clause-joined : goal.returns-clause-joined
returns-clause-joined c = (all_joined c).joined

pub returns-clause-placed : goal.returns-clause-placed
returns-clause-placed c = (all_joined c).placed

pub returns-clause-same : goal.returns-clause-same
returns-clause-same c = (all_joined c).same
