-- One page more.
use Rattle.std.proofs.Common.{below_more}
use Rattle.rs_page_cache.proofs.Changed.{commit-here, commit-none, commit-all}
use Rattle.rs_page_cache.proofs.changes.commit_all.Goals as goal

pub loop-number-preserved : goal.loop-number-preserved
loop-number-preserved c = record {
  all = commit-all _ _ _ _ c.commit.ensures.there c.commit.ensures.others c.loop-number.invariant.all;
  done = below_more _ _ (λ k h. commit-none c.loop-number.slots c.loop-number.slots _ _ c.commit.ensures.there c.commit.ensures.others _ (c.loop-number.invariant.done k h))
      (commit-here c.loop-number.slots _ _ _ c.commit.ensures.there c.commit.ensures.others);
  others = λ n none. commit-none c.loop-number.slots _ _ _ c.commit.ensures.there c.commit.ensures.others n (c.loop-number.invariant.others n none);
}
