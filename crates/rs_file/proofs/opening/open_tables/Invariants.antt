-- The tables so far.
use Rattle.std.proofs.Common.{◌≡◌, Ok, length, take}
use Rattle.std.specs.List.{AllZip}
use Rattle.rs_catalog_pages.specs.Said.{said_catalogue, said_directory}
use Rattle.rs_file.specs.Opening.{IsTableOf, OpensTables}
use Rattle.rs_pages.specs.Lending.{RestsAfter}
use Rattle.rs_page_marks.specs.Marks.{taken}
use Rattle.rs_file.proofs.opening.open_tables.Given as goal

abbrev pub invariant-loop-item : goal.invariant-loop-item
invariant-loop-item g l = record {
  rests : RestsAfter {T = Unit {0}} g.P.Pages.is_tied g.P.Pages.store g.P.Pages.keeps (Ok tt) l.fn.pages l.pages;
  size : length l.reached ≡ length l.fn.reached;
  opens : g.P.Pages.is_tied l.fn.pages → OpensTables l.routes (g.P.Pages.store l.fn.pages).map (said_directory l.directory) (said_catalogue l.definitions)
      (take l.item-index (said_catalogue l.definitions).tables) l.tables.items (taken l.fn.reached) (taken l.reached);
  are : AllZip (IsTableOf (said_directory l.directory) (said_catalogue l.definitions)) (take l.item-index (said_catalogue l.definitions).tables) l.tables.items;
}
