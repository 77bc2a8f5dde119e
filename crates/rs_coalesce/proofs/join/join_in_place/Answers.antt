use Rattle.std.proofs.Common.{◌<◌, ◌+◌, length, map, true, false, refl, sym, ap, ◌∙◌, subst, arith}
use Rattle.rs_facts.specs.Spans.{seen}
use Rattle.rs_coalesce.specs.Joined.{joined}
use Rattle.rs_coalesce.proofs.JoinLoop.{SoFar, joined-nothing, so_far-start, so_far-join, so_far-apart, grown-is, joins-at, so_far-end}
use Rattle.rs_coalesce.proofs.join.join_in_place.Goals as goal
use Rattle.rs_coalesce.proofs.join.join_in_place.Goals.{then-is_joined, else-is_joined}

pub returns-then-is_empty-clause-joined : goal.returns-then-is_empty-clause-joined
returns-then-is_empty-clause-joined c = joined-nothing c.args.kind c.args.spans.now (grind arith)

pub loop-next-init : goal.loop-next-init
loop-next-init c = record {
  last_below = omega arith;
  as_long = refl;
  so_far = so_far-start c.args.kind c.args.spans.now (grind arith);
}

pub loop-next-preserved : goal.loop-next-preserved
loop-next-preserved c =
    let below : c.loop-next.last < c.loop-next.next = omega arith in
    let within : c.loop-next.next < length c.loop-next.spans = omega (arith, c.loop-next.invariant.as_long, c.loop-next-test.true) in
    let in_last : c.loop-next.last < length c.loop-next.spans = omega (arith, below, within) in
    elim c.if-is_joined.branch [
      | then-is_joined w ↦ record {
        last_below = omega (arith, w.last-is, below);
        as_long = grind (arith, w.spans-is);
        so_far = subst (λ n. SoFar c.args.kind c.if-is_joined.spans n (c.loop-next.next + 1) (joined c.args.kind (map seen c.args.spans.now))) (sym w.last-is)
            (so_far-join c.args.kind c.loop-next.spans c.if-is_joined.spans c.loop-next.last c.loop-next.next _ (joined c.args.kind (map seen c.args.spans.now)) below within w.spans-is
            (joins-at c.args.kind c.loop-next.spans c.loop-next.last c.loop-next.next c.index-spans-last.result c.index-spans-next.result c.is_joined.result true in_last within c.index-spans-last.is c.index-spans-next.is c.is_joined.ensures w.if-is_joined.true)
            (grown-is c.loop-next.spans c.loop-next.last c.loop-next.next w.index-spans-last-then-is_joined.result w.index-spans-next-then-is_joined.result w.index-spans-last-then-is_joined-2.result w.max-hi.result in_last within w.max-hi.ensures)
            c.loop-next.invariant.so_far);
      }
      | else-is_joined w ↦ record {
        last_below = omega (arith, w.last-is, below);
        as_long = ap length w.spans-is ∙ w.swap.ensures.len ∙ c.loop-next.invariant.as_long;
        so_far = subst (λ n. SoFar c.args.kind c.if-is_joined.spans n (c.loop-next.next + 1) (joined c.args.kind (map seen c.args.spans.now))) (sym w.last-is)
            (subst (λ ys. SoFar c.args.kind ys (c.loop-next.last + 1) (c.loop-next.next + 1) (joined c.args.kind (map seen c.args.spans.now))) (sym w.spans-is)
            (so_far-apart c.args.kind c.loop-next.spans w.swap.new.self c.loop-next.last c.loop-next.next (joined c.args.kind (map seen c.args.spans.now)) below within
            w.swap.ensures.by_index.0 w.swap.ensures.by_index.3
            (joins-at c.args.kind c.loop-next.spans c.loop-next.last c.loop-next.next c.index-spans-last.result c.index-spans-next.result c.is_joined.result false in_last within c.index-spans-last.is c.index-spans-next.is c.is_joined.ensures w.if-is_joined.false)
            c.loop-next.invariant.so_far));
      }
    ]

pub returns-clause-joined : goal.returns-clause-joined
returns-clause-joined c =
    let some : 0 < length c.args.spans.now = grind arith in
    so_far-end c.args.kind c.loop-next.spans c.loop-next.last c.loop-next.next (joined c.args.kind (map seen c.args.spans.now)) (omega (arith, some)) (omega (arith, some)) c.loop-next.invariant.so_far
