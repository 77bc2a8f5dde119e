-- Each round takes one page from those that are held.
use Rattle.std.proofs.Common.{◌≡◌, ◌≤◌, ◌+◌, length}
use Rattle.rs_page_cache.proofs.clean.keep_memory.Given as goal

abbrev pub invariant-loop-page : goal.invariant-loop-page
invariant-loop-page l = record {
  cap : l.kept.cap ≡ l.fn.kept.cap;
  bound : length l.kept.entries + length l.unused.items ≤ length l.fn.kept.entries + length l.fn.unused.items;
}

abbrev pub decreases-loop-page : goal.decreases-loop-page
decreases-loop-page l = length l.kept.entries
