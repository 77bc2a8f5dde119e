-- The cells so far are taken out.
use Rattle.std.proofs.Common.{◌≡◌, take}
use Rattle.rs_page_owners.specs.Changes.{Works, CountsNothing}
use Rattle.rs_records.specs.Listed.{listed}
use Rattle.rs_tree.specs.Form.{form_of}
use Rattle.rs_cell_versions.specs.Inner.{TakesOut}
use Rattle.rs_cell_versions.proofs.changing.take_out.Given as goal

abbrev pub invariant-loop-index : goal.invariant-loop-index
invariant-loop-index g l = record {
  keeps : g.P.Pages.keeps l.fn.pages l.pages;
  works : Works (g.P.Pages.store l.fn.pages) (g.P.Pages.store l.pages);
  nothing : CountsNothing (g.P.Pages.store l.fn.pages) (g.P.Pages.store l.pages);
  width : l.tree.width ≡ l.fn.tree.width;
  taken : g.P.Pages.is_tied l.fn.pages
      → TakesOut (form_of g.S.Summary.says g.S.Summary.unit g.S.Summary.join g.S.Summary.of g.S.Summary.WIDTH l.fn.tree.width) (g.P.Pages.store l.fn.pages).map (g.P.Pages.store l.pages).map
      l.fn.tree.root l.tree.root (take l.index (listed l.cells));
}
