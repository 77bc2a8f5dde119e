-- The numbers are those of the slots, in order.
use Rattle.std.proofs.Common.{◌∙◌, ap, subst}
use Rattle.rs_page_cache.specs.Changes.{AreWhole, Changes, NumbersCommitted, committed_numbers}
use Rattle.rs_page_cache.proofs.Numbers.{numbers_committed}
use Rattle.rs_page_cache.proofs.changes.Changes.list_committed.Goals as goal

pub returns : goal.returns
returns c = subst (λ (slots : Changes). NumbersCommitted slots c.sort_unstable.new.self.items) c.self.view_is
    (numbers_committed c.self.inside.slots c.list_numbers.new.numbers.items c.sort_unstable.new.self.items c.all.ensures.pages
    (subst AreWhole c.all.ensures.slots c.in_ok-list_numbers.ensures.whole)
    (c.in_ok-list_numbers.ensures.listed ∙ ap committed_numbers c.all.ensures.slots)
    c.sort_unstable.ensures.permutation c.sort_unstable.ensures.sorted)
