-- The cells so far have their entries where those that wait have theirs.
use Rattle.std.proofs.Common.{◌≡◌, ◌++◌, Ok, ℕ, List, take}
use Rattle.std.specs.List.{AllByRecursion, Contains}
use Rattle.rs_attr.specs.Opening.{HaveAllEntries}
use Rattle.rs_pages.specs.Lending.{RestsAfter}
use Rattle.rs_records.specs.Listed.{listed, record_width}
use Rattle.rs_attr.proofs.opening.gather.Given as goal

abbrev pub invariant-loop-place : goal.invariant-loop-place
invariant-loop-place g l = record {
  rests : RestsAfter {T = Unit {0}} g.P.Pages.is_tied g.P.Pages.store g.P.Pages.keeps (Ok tt) l.fn.pages l.pages;
  wide : record_width l.waiting ≡ record_width l.fn.waiting;
  entered : g.P.Pages.is_tied l.fn.pages → HaveAllEntries (g.P.Pages.store l.fn.pages).map l.indexes (listed l.waiting)
      → HaveAllEntries (g.P.Pages.store l.fn.pages).map l.indexes (listed l.fn.waiting ++ take l.place (listed l.cells));
  among : (all : List (List ℕ)) → AllByRecursion (Contains all) (listed l.fn.waiting ++ take l.place (listed l.cells)) → AllByRecursion (Contains all) (listed l.waiting);
}
