-- The free pages so far, each reached once more.
use Rattle.std.proofs.Common.{◌≡◌, Ok, length}
use Rattle.rs_file.proofs.Walked.{HasWalked}
use Rattle.rs_pages.specs.Lending.{RestsAfter}
use Rattle.rs_page_marks.specs.Marks.{taken}
use Rattle.rs_file.proofs.free_pages.reach_free.Given as goal

abbrev pub invariant-loop-next : goal.invariant-loop-next
invariant-loop-next g l = record {
  rests : RestsAfter {T = Unit {0}} g.P.Pages.is_tied g.P.Pages.store g.P.Pages.keeps (Ok tt) l.fn.pages l.pages;
  size : length l.reached ≡ length l.fn.reached;
  walked : g.P.Pages.is_tied l.fn.pages → HasWalked (g.P.Pages.store l.fn.pages).map l.next l.left (taken l.fn.reached) (taken l.reached);
}

abbrev pub decreases-loop-next : goal.decreases-loop-next
decreases-loop-next g l = l.left
