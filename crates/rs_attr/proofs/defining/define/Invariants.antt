-- The cells below a route have come.
use Rattle.std.proofs.Common.{◌≡◌}
use Rattle.rs_attr.proofs.Parts.{Defines}
use Rattle.rs_attr.specs.Entries.{IsColumn}
use Rattle.rs_attr.proofs.Parts.{SaysRoute}
use Rattle.rs_page_owners.specs.Changes.{Works, CountsNothing}
use Rattle.rs_attr.proofs.defining.define.Given as goal

abbrev pub invariant-loop-route : goal.invariant-loop-route
invariant-loop-route g l = record {
  keeps : g.P.Pages.keeps l.fn.pages l.pages;
  works : Works (g.P.Pages.store l.fn.pages) (g.P.Pages.store l.pages);
  nothing : CountsNothing (g.P.Pages.store l.fn.pages) (g.P.Pages.store l.pages);
  column : IsColumn l.table.types l.column l.index.field;
  committed : l.index.committed ≡ 0;
  low : SaysRoute l.low;
  defined : g.P.Pages.is_tied l.fn.pages
      → Defines l.index.field (g.P.Pages.store l.fn.pages).map (g.P.Pages.store l.pages).map l.cells.root l.index.working l.low;
}
