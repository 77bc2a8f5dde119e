-- Each left that comes has its right, since there are as many of either.
use Rattle.std.proofs.Common.{◌∙◌, length, sym, ap, subst, arith}
use Rattle.std.specs.List.{AllZip, zip}
use Rattle.std.specs.Option.{option_to_list}
use Rattle.rs_exec.specs.Pairs.{CanPair, IsPaired}
use Rattle.rs_exec.proofs.Lists.{Zips, zips-none, zips-next, zips-all, empty, some-second, both-firsts, first-given}
use Rattle.rs_exec.proofs.pairs.paired_each.Goals as goal

pub loop-left-init : goal.loop-left-init
loop-left-init c =
    let lefts = c.into_iter-left-iterator.ensures.into_iter_gives.0 in
    let rights = c.into_iter-rights.ensures.rest in record {
      left_counted = let e = ap length lefts in let f = c.into_iter-left-iterator.ensures.into_iter_gives.1 in omega (arith, e, f);
      right_counted = let e = ap length rights in let f = c.into_iter-rights.ensures.len in omega (arith, e, f);
      can = subst (λ rest. AllZip (CanPair c.args.pairing c.args.kinds) rest c.into_iter-rights.result.rest.items) (sym lefts) (subst (AllZip (CanPair c.args.pairing c.args.kinds) c.args.lefts.items) (sym rights) c.requires);
      paired = subst (λ rest. Zips (IsPaired c.args.pairing c.args.kinds) (zip c.args.lefts.items c.args.rights.items) rest c.new-made.result.items) (sym (λ i. zip (lefts i) (rights i)))
          (zips-none (IsPaired c.args.pairing c.args.kinds) _ _ c.new-made.ensures.items);
    }

pub unwrap-right-requires : goal.unwrap-right-requires
unwrap-right-requires c = c.next-in-loop-left.ensures.variant.1 (let some = some-second (CanPair c.args.pairing c.args.kinds) _ _ _ _ c.loop-left.invariant.can c.in-Some.ensures.steps.0 in omega (arith, some, c.loop-left.invariant.right_counted))

pub paired-requires : goal.paired-requires
paired-requires c =
    let right = first-given _ _ _ _ c.next-in-loop-left.ensures.items c.unwrap-right.ensures in
    (both-firsts (CanPair c.args.pairing c.args.kinds) _ _ _ _ _ _ c.loop-left.invariant.can c.in-Some.ensures.steps.0 right).0

pub loop-left-preserved : goal.loop-left-preserved
loop-left-preserved c =
    let right = first-given _ _ _ _ c.next-in-loop-left.ensures.items c.unwrap-right.ensures in record {
      left_counted = let e = ap length c.in-Some.ensures.steps.0 in let f = c.in-Some.ensures.steps.1 in omega (arith, e, f, c.loop-left.invariant.left_counted);
      right_counted = let e = ap length right in let f = c.next-in-loop-left.ensures.len in let g = ap (λ o. length (option_to_list o)) c.unwrap-right.ensures in omega (arith, e, f, g, c.loop-left.invariant.right_counted);
      can = (both-firsts (CanPair c.args.pairing c.args.kinds) _ _ _ _ _ _ c.loop-left.invariant.can c.in-Some.ensures.steps.0 right).1;
      paired = zips-next (IsPaired c.args.pairing c.args.kinds) _ _ _ _ _ _ _ c.loop-left.invariant.paired (λ i. zip (c.in-Some.ensures.steps.0 i) (right i)) c.in_ok-push.ensures.items c.in_ok-paired.ensures;
    }

pub returns : goal.returns
returns c = zips-all (IsPaired c.args.pairing c.args.kinds) _ _ _ c.loop-left.invariant.paired
    (ap (λ lefts. zip lefts c.loop-left.rights.rest.items) (empty _ (c.loop-left.invariant.left_counted ∙ c.in-None.ensures.steps.0)))
