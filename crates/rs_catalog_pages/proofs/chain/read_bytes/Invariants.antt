-- The pages so far hold the bytes so far, and were reached once more.
use Rattle.std.proofs.Common.{◌≡◌, ◌≤◌, ℕ, Ok, length}
use Rattle.rs_page_owners.specs.Counts.{◌&◌, times}
use Rattle.rs_pages.specs.Lending.{RestsAfter}
use Rattle.rs_page_marks.specs.Marks.{taken, unmarked}
use Rattle.rs_catalog_pages.specs.Inner.{HoldsUpTo}
use Rattle.rs_catalog_pages.proofs.chain.read_bytes.Given as goal

abbrev pub invariant-loop-next : goal.invariant-loop-next
invariant-loop-next g l = record {
  rests : RestsAfter {T = Unit {0}} g.P.Pages.is_tied g.P.Pages.store g.P.Pages.keeps (Ok tt) l.fn.pages l.pages;
  size : length l.reached ≡ length l.fn.reached;
  within : length l.bytes.items ≤ l.size;
  total : l.size ≡ (g.P.Pages.store l.fn.pages).map.fields.catalogue_length;
  reached : (n : ℕ) → taken l.reached n ≡ (taken l.fn.reached & times l.numbers.items) n;
  reads : g.P.Pages.is_tied l.fn.pages → HoldsUpTo (g.P.Pages.store l.fn.pages).map (g.P.Pages.store l.fn.pages).map.fields.catalogue l.numbers.items l.bytes.items l.next;
}

abbrev pub decreases-loop-next : goal.decreases-loop-next
decreases-loop-next g l = unmarked l.reached
