-- The numbers so far are in the page.
use Rattle.std.proofs.Common.{◌≡◌, ℕ, ◌+◌, ◌*◌, ◌<◌}
use Rattle.rs_page.specs.Number.{number_at}
use Rattle.rs_journal.proofs.journal.put_numbers.Given as goal

abbrev pub invariant-loop-place : goal.invariant-loop-place
invariant-loop-place g l =
    (k : ℕ) → k < l.place → number_at (4 * k) 4 l.page.bytes ≡ g.C.Copies.number l.copies (l.start + k)
