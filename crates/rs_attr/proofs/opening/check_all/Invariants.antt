-- The cells have their entries in the first indexes.
use Rattle.std.proofs.Common.{Ok, take}
use Rattle.rs_attr.specs.Opening.{HaveAllEntries}
use Rattle.rs_pages.specs.Lending.{RestsAfter}
use Rattle.rs_records.specs.Listed.{listed}
use Rattle.rs_attr.proofs.opening.check_all.Given as goal

abbrev pub invariant-loop-index : goal.invariant-loop-index
invariant-loop-index g l = record {
  rests : RestsAfter {T = Unit {0}} g.P.Pages.is_tied g.P.Pages.store g.P.Pages.keeps (Ok tt) l.fn.pages l.pages;
  entered : g.P.Pages.is_tied l.fn.pages → HaveAllEntries (g.P.Pages.store l.fn.pages).map (take l.index-index l.indexes) (listed l.cells);
}
