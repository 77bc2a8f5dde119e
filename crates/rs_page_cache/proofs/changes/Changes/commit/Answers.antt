-- Each page with a copy is among those that were visited.
use Rattle.std.proofs.Common.{◌≡◌, ℕ, subst, sym}
use Rattle.rs_page_cache.specs.Changes.{Changes, held_at, committed_held, HasCopied}
use Rattle.rs_page_cache.proofs.Changed.{all_committed, no_copy_left, lists_nothing}
use Rattle.rs_page_cache.proofs.changes.Changes.commit.Goals as goal

pub returns : goal.returns
returns c =
    let lists : HasCopied c.self.inside.slots c.deref.result.now = subst (HasCopied c.self.inside.slots) (sym c.deref.ensures.value) c.self.invariant in
    subst (λ (old : Changes). (n : ℕ) → held_at c.commit_all.new.slots n ≡ committed_held (held_at old n)) c.self.view_is
    (all_committed c.self.inside.slots c.commit_all.new.slots c.deref.result.now lists c.commit_all.ensures.commits c.commit_all.ensures.done c.commit_all.ensures.others)

pub invariant_of-self : goal.invariant_of-self
invariant_of-self c =
    let lists : HasCopied c.self.inside.slots c.deref.result.now = subst (HasCopied c.self.inside.slots) (sym c.deref.ensures.value) c.self.invariant in
    subst (HasCopied c.commit_all.new.slots) (sym c.clear.ensures.items)
    (lists_nothing c.commit_all.new.slots (no_copy_left c.self.inside.slots c.commit_all.new.slots c.deref.result.now lists c.commit_all.ensures.done c.commit_all.ensures.others))
