-- The first cells have come.
use Rattle.std.proofs.Common.{◌≡◌}
use Rattle.rs_attr.proofs.Parts.{AppendsFirst}
use Rattle.rs_page_owners.specs.Changes.{Works, CountsNothing}
use Rattle.rs_records.specs.Listed.{listed}
use Rattle.rs_attr.proofs.defining.append.Given as goal

abbrev pub invariant-loop-place : goal.invariant-loop-place
invariant-loop-place g l = record {
  keeps : g.P.Pages.keeps l.fn.pages l.pages;
  works : Works (g.P.Pages.store l.fn.pages) (g.P.Pages.store l.pages);
  nothing : CountsNothing (g.P.Pages.store l.fn.pages) (g.P.Pages.store l.pages);
  field : l.index.field ≡ l.fn.index.field;
  committed : l.index.committed ≡ l.fn.index.committed;
  appended : g.P.Pages.is_tied l.fn.pages
      → AppendsFirst l.fn.index.field (g.P.Pages.store l.fn.pages).map (g.P.Pages.store l.pages).map l.fn.index.working l.index.working (listed l.cells) l.place;
}
