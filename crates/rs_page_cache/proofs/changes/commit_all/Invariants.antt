-- Of the pages with the numbers so far none has a copy, and each is as it was otherwise.
use Rattle.std.proofs.Common.{◌≡◌, ◌<◌, ℕ, None, slice_index}
use Rattle.rs_page_cache.specs.Changes.{held_at, committed_held}
use Rattle.rs_page_cache.proofs.changes.commit_all.Given as goal

abbrev pub invariant-loop-number : goal.invariant-loop-number
invariant-loop-number l = record {
  all : (n : ℕ) → committed_held (held_at l.slots n) ≡ committed_held (held_at l.initial.slots n);
  done : (k : ℕ) → k < l.number-index → (held_at l.slots (slice_index l.copied k)).copy ≡ None;
  others : (n : ℕ) → (held_at l.initial.slots n).copy ≡ None → (held_at l.slots n).copy ≡ None;
}
