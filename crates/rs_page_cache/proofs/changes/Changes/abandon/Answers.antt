-- Each page with a copy is among those that were visited.
use Rattle.std.proofs.Common.{◌≡◌, ℕ, subst, sym}
use Rattle.rs_page_cache.specs.Changes.{Changes, held_at, abandoned_held, HasCopied}
use Rattle.rs_page_cache.proofs.Changed.{all_abandoned, no_copy_left, lists_nothing}
use Rattle.rs_page_cache.proofs.changes.Changes.abandon.Goals as goal

pub returns : goal.returns
returns c =
    let lists : HasCopied c.self.inside.slots c.deref.result.now = subst (HasCopied c.self.inside.slots) (sym c.deref.ensures.value) c.self.invariant in
    subst (λ (old : Changes). (n : ℕ) → held_at c.abandon_all.new.slots n ≡ abandoned_held (held_at old n)) c.self.view_is
    (all_abandoned c.self.inside.slots c.abandon_all.new.slots c.deref.result.now lists c.abandon_all.ensures.abandons c.abandon_all.ensures.done c.abandon_all.ensures.others)

pub invariant_of-self : goal.invariant_of-self
invariant_of-self c =
    let lists : HasCopied c.self.inside.slots c.deref.result.now = subst (HasCopied c.self.inside.slots) (sym c.deref.ensures.value) c.self.invariant in
    subst (HasCopied c.abandon_all.new.slots) (sym c.clear.ensures.items)
    (lists_nothing c.abandon_all.new.slots (no_copy_left c.self.inside.slots c.abandon_all.new.slots c.deref.result.now lists c.abandon_all.ensures.done c.abandon_all.ensures.others))
