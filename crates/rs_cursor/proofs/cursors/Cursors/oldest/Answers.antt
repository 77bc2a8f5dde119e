use Rattle.std.proofs.Common.{refl, subst, ◌∙◌}
use Rattle.rs_cursor.proofs.Lowest.{HasIn, goes_over, goes_to_end}
use Rattle.rs_cursor.proofs.Oldests.{oldest_of_sessions}
use Rattle.rs_cursor.specs.Held.{held_of}
use Rattle.rs_cursor.specs.Oldest.{IsLowest, LooksAt}
use Rattle.rs_cursor.proofs.cursors.Cursors.oldest.Goals as goal

pub loop-cursors-preserved : goal.loop-cursors-preserved
loop-cursors-preserved c =
    goes_over LooksAt c.into_iter-cursors-iterator.result c.loop-cursors.cursors-iterator c.next.new.self c.in-Some.cursors.now c.args.most c.loop-cursors.oldest c.oldest_of-oldest.result c.in-Some.ensures.steps c.loop-cursors.invariant
    c.oldest_of-oldest.ensures

pub returns : goal.returns
returns c =
    oldest_of_sessions (λ session cursors. cursors) (λ session. refl) c.self.inside.by_session.entries c.args.self.now c.self.view_is (held_of c.args.self.now) (λ session. refl) c.values-cursors-items.ensures.ordered c.args.most c.loop-cursors.oldest
    (subst (λ all. IsLowest (HasIn LooksAt all) c.args.most c.loop-cursors.oldest) (c.into_iter-cursors-iterator.ensures.into_iter_gives ∙ c.values-cursors-items.ensures.rest)
    (goes_to_end LooksAt c.into_iter-cursors-iterator.result c.loop-cursors.cursors-iterator c.args.most c.loop-cursors.oldest c.in-None.ensures.steps.0 c.loop-cursors.invariant))
