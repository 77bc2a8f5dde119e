use Rattle.std.proofs.Common.{◌∙◌, length, sym, ap, subst, arith}
use Rattle.std.specs.List.{AllByRecursion}
use Rattle.rs_exec.specs.Joined.{HasRuns, IsOfKind}
use Rattle.rs_exec.proofs.Lists.{Zips, zips-none, zips-next, zips-all, empty}
use Rattle.rs_exec.proofs.joined.runs_each.Goals as goal

pub loop-rows-init : goal.loop-rows-init
loop-rows-init c =
    let whole = c.into_iter-rows-iterator.ensures.into_iter_gives.0 in record {
      counted = let e = ap length whole in let f = c.into_iter-rows-iterator.ensures.into_iter_gives.1 in omega (arith, e, f);
      placed = subst (AllByRecursion (IsOfKind c.args.kind)) (sym whole) c.requires.placed;
      joined = subst (λ rest. Zips (HasRuns c.args.kind) c.args.lists.items rest c.new-made.result.items) (sym whole) (zips-none (HasRuns c.args.kind) _ _ c.new-made.ensures.items);
    }

pub runs-requires : goal.runs-requires
runs-requires c = record {
  placed = (subst (AllByRecursion (IsOfKind c.args.kind)) c.in-Some.ensures.steps.0 c.loop-rows.invariant.placed).0;
}

pub loop-rows-preserved : goal.loop-rows-preserved
loop-rows-preserved c = record {
  counted = let e = ap length c.in-Some.ensures.steps.0 in let f = c.in-Some.ensures.steps.1 in omega (arith, e, f, c.loop-rows.invariant.counted);
  placed = (subst (AllByRecursion (IsOfKind c.args.kind)) c.in-Some.ensures.steps.0 c.loop-rows.invariant.placed).1;
  joined = zips-next (HasRuns c.args.kind) _ _ _ _ _ _ _ c.loop-rows.invariant.joined c.in-Some.ensures.steps.0 c.in_ok-push.ensures.items
      (record { runs = c.runs.ensures.runs; placed = c.runs.ensures.placed; same = c.runs.ensures.same });
}

pub returns : goal.returns
returns c = zips-all (HasRuns c.args.kind) _ _ _ c.loop-rows.invariant.joined (empty _ (c.loop-rows.invariant.counted ∙ c.in-None.ensures.steps.0))
