use Rattle.std.proofs.Common.{◌∙◌, length, sym, ap, subst, arith}
use Rattle.std.specs.List.{AllByRecursion}
use Rattle.rs_exec.specs.Routes.{IsInOrder}
use Rattle.rs_exec.specs.Changes.{IsChanged}
use Rattle.rs_exec.proofs.Lists.{Zips, zips-none, zips-next, zips-all, empty}
use Rattle.rs_exec.proofs.changes.changed_each.Goals as goal

pub loop-rows-init : goal.loop-rows-init
loop-rows-init c =
    let whole = c.into_iter-rows-iterator.ensures.into_iter_gives.0 in record {
      counted = let e = ap length whole in let f = c.into_iter-rows-iterator.ensures.into_iter_gives.1 in omega (arith, e, f);
      ordered = subst (AllByRecursion IsInOrder) (sym whole) c.requires.ordered;
      changed = subst (λ rest. Zips (IsChanged c.args.change) c.args.lists.items rest c.new-made.result.items) (sym whole) (zips-none (IsChanged c.args.change) _ _ c.new-made.ensures.items);
    }

pub changed-requires : goal.changed-requires
changed-requires c = record {
  narrow = c.requires.narrow;
  ordered = (subst (AllByRecursion IsInOrder) c.in-Some.ensures.steps.0 c.loop-rows.invariant.ordered).0;
}

pub loop-rows-preserved : goal.loop-rows-preserved
loop-rows-preserved c = record {
  counted = let e = ap length c.in-Some.ensures.steps.0 in let f = c.in-Some.ensures.steps.1 in omega (arith, e, f, c.loop-rows.invariant.counted);
  ordered = (subst (AllByRecursion IsInOrder) c.in-Some.ensures.steps.0 c.loop-rows.invariant.ordered).1;
  changed = zips-next (IsChanged c.args.change) _ _ _ _ _ _ _ c.loop-rows.invariant.changed c.in-Some.ensures.steps.0 c.in_ok-push.ensures.items c.in_ok-changed.ensures;
}

pub returns : goal.returns
returns c = zips-all (IsChanged c.args.change) _ _ _ c.loop-rows.invariant.changed (empty _ (c.loop-rows.invariant.counted ∙ c.in-None.ensures.steps.0))
