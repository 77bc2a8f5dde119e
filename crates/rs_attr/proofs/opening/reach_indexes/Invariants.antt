-- The trees of the first indexes were reached.
use Rattle.std.proofs.Common.{◌≡◌, ◌+◌, Ok, length, take}
use Rattle.rs_attr.specs.Opening.{ReachesIndexes}
use Rattle.rs_pages.specs.Lending.{RestsAfter}
use Rattle.rs_page_marks.specs.Marks.{taken}
use Rattle.rs_attr.proofs.opening.reach_indexes.Given as goal

abbrev pub invariant-loop-index : goal.invariant-loop-index
invariant-loop-index g l = record {
  rests : RestsAfter {T = Unit {0}} g.P.Pages.is_tied g.P.Pages.store g.P.Pages.keeps (Ok tt) l.fn.pages l.pages;
  size : length l.reached ≡ length l.fn.reached;
  reaches : g.P.Pages.is_tied l.fn.pages → ReachesIndexes (g.P.Pages.store l.fn.pages).map (take l.index-index l.indexes) (l.told.living + l.told.garbage) (taken l.fn.reached) (taken l.reached);
}
