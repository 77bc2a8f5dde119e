-- The cells below the bound say events that are meant, and have their entries in the indexes where those that wait have theirs.
use Rattle.std.proofs.Common.{◌≡◌, Ok}
use Rattle.rs_attr.specs.Opening.{HaveAllEntries}
use Rattle.rs_attr.proofs.Opened.{AreAmong, AreEnteredBelow, AreMeantBelow}
use Rattle.rs_attr.proofs.Routes.{IsAt}
use Rattle.rs_interval.specs.Finding.{event_form}
use Rattle.rs_pages.specs.Lending.{RestsAfter}
use Rattle.rs_records.specs.Listed.{listed, record_width}
use Rattle.rs_versioned.specs.Events.{event_width}
use Rattle.rs_cell_versions.specs.Opening.{HasPassed, told_of}
use Rattle.rs_attr.proofs.opening.open.Given as goal

abbrev pub invariant-loop-next : goal.invariant-loop-next
invariant-loop-next g l = record {
  rests : RestsAfter {T = Unit {0}} g.P.Pages.is_tied g.P.Pages.store g.P.Pages.keeps (Ok tt) l.fn.pages l.pages;
  told : l.opening.told ≡ told_of (event_width l.told.schema.items) l.told.records;
  passed : g.P.Pages.is_tied l.fn.pages → HasPassed (event_form l.opening.told.width) (g.P.Pages.store l.fn.pages).map l.opening;
  at : IsAt l.routes l.next-index l.route l.opening.low;
  wide : record_width l.waiting ≡ event_width l.told.schema.items;
  among : g.P.Pages.is_tied l.fn.pages → AreAmong l.told.schema.items (g.P.Pages.store l.fn.pages).map l.told.records.root (listed l.waiting);
  below : g.P.Pages.is_tied l.fn.pages → HaveAllEntries (g.P.Pages.store l.fn.pages).map l.indexes (listed l.waiting) → AreEnteredBelow l.told.schema.items (g.P.Pages.store l.fn.pages).map l.indexes l.told.records.root l.opening.low;
  meant : g.P.Pages.is_tied l.fn.pages → AreMeantBelow l.told l.routes (g.P.Pages.store l.fn.pages).map l.opening.low;
}
