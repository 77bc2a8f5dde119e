use Rattle.std.proofs.Common.{get_or, sym, subst}
use Rattle.rs_exec.specs.Held.{HoldsRows, IsJoinedIn, AreJoinedIn}
use Rattle.rs_exec.specs.Meaning.{leaf_meaning}
use Rattle.rs_exec.proofs.Leavings.{leaves-none, leaves-then}
use Rattle.rs_exec.proofs.Lists.{zips-none, zips-next, zips-all, every-last, more-numbers, end}
use Rattle.rs_exec.proofs.Steps.{earlier-one}
use Rattle.rs_exec.proofs.leaves.leaf_each.Goals as goal

pub loop-number-init : goal.loop-number-init
loop-number-init g c = record {
  held = zips-none (HoldsRows (g.S.Source.is c.args.source.now) c.args.version (leaf_meaning c.args.leaf.now)) _ _ c.new-rows.ensures.items;
  joined = subst (AreJoinedIn (g.S.Source.is c.args.source.now) c.args.leaf.now.table.kind) (sym c.new-rows.ensures.items) tt;
  leaves = leaves-none g.S.Source g.met.S.Source.passes_refl c.args.source.now;
}

pub loop-number-preserved : goal.loop-number-preserved
loop-number-preserved g c = record {
  held = zips-next (HoldsRows (g.S.Source.is c.args.source.now) c.args.version (leaf_meaning c.args.leaf.now)) _ _ _ _ _ _ _ c.loop-number.invariant.held
      (more-numbers c.args.numbers.now c.loop-number.number-index c.loop-number-test.true) c.in_ok-push.ensures.items
      (earlier-one (g.S.Source.is c.args.source.now) (g.S.Source.is c.loop-number.source) c.args.version (get_or c.args.numbers.now c.loop-number.number-index 0) (leaf_meaning c.args.leaf.now) c.in_ok-on_route.on_route
      c.loop-number.invariant.leaves.stands c.in_ok-on_route.ensures.held);
  joined = subst (AreJoinedIn (g.S.Source.is c.args.source.now) c.args.leaf.now.table.kind) (sym c.in_ok-push.ensures.items)
      (every-last (IsJoinedIn (g.S.Source.is c.args.source.now) c.args.leaf.now.table.kind) c.loop-number.rows.items c.in_ok-on_route.on_route c.loop-number.invariant.joined
      (λ snapshots there. c.in_ok-on_route.ensures.joined snapshots (c.loop-number.invariant.leaves.stands snapshots there)));
  leaves = leaves-then g.S.Source g.met.S.Source.passes_trans c.args.source.now c.loop-number.source c.leaf_rows.new.source c.loop-number.invariant.leaves c.in_ok-on_route.ensures.ends.leaves;
}

pub returns-clause-held : goal.returns-clause-held
returns-clause-held g c =
    zips-all (HoldsRows (g.S.Source.is c.args.source.now) c.args.version (leaf_meaning c.args.leaf.now)) _ _ _ c.loop-number.invariant.held (end c.args.numbers.now c.loop-number.number-index c.loop-number-test.false)
