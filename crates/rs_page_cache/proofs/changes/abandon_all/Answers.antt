-- One page more.
use Rattle.std.proofs.Common.{below_more}
use Rattle.rs_page_cache.proofs.Changed.{abandon-here, abandon-none, abandon-all}
use Rattle.rs_page_cache.proofs.changes.abandon_all.Goals as goal

pub loop-number-preserved : goal.loop-number-preserved
loop-number-preserved c = record {
  all = abandon-all _ _ _ _ c.abandon.ensures.there c.abandon.ensures.others c.loop-number.invariant.all;
  done = below_more _ _ (λ k h. abandon-none c.loop-number.slots c.loop-number.slots _ _ c.abandon.ensures.there c.abandon.ensures.others _ (c.loop-number.invariant.done k h))
      (abandon-here c.loop-number.slots _ _ _ c.abandon.ensures.there c.abandon.ensures.others);
  others = λ n none. abandon-none c.loop-number.slots _ _ _ c.abandon.ensures.there c.abandon.ensures.others n (c.loop-number.invariant.others n none);
}
