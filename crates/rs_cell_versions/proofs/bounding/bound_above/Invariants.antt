-- The way to the last cells has come to this page.
use Rattle.std.proofs.Common.{Ok}
use Rattle.rs_pages.specs.Lending.{RestsAfter}
use Rattle.rs_tree.specs.Form.{form_of}
use Rattle.rs_cell_versions.proofs.LastCells.{LeadsTo}
use Rattle.rs_cell_versions.proofs.bounding.bound_above.Given as goal

abbrev pub decreases-down : goal.decreases-down
decreases-down g l = l.left

abbrev pub invariant-down : goal.invariant-down
invariant-down g l = record {
  rests : RestsAfter {T = Unit {0}} g.P.Pages.is_tied g.P.Pages.store g.P.Pages.keeps (Ok tt) l.fn.pages l.pages;
  leads : g.P.Pages.is_tied l.fn.pages
      → LeadsTo (form_of g.S.Summary.says g.S.Summary.unit g.S.Summary.join g.S.Summary.of l.layout.summary l.layout.width) (g.P.Pages.store l.fn.pages).map l.fn.root l.number l.left;
}
