-- Each level is two steps. So many parts are free.
use Rattle.std.proofs.Common.{◌*◌, ◌+◌}
use Rattle.rs_page_owners.specs.Changes.{Works, CountsNothing}
use Rattle.rs_tree_whole.proofs.Freeing.{ClearsSome}
use Rattle.rs_tree_whole.proofs.clearing.+clearing.Given as goal
use Rattle.rs_tree.specs.Forms.{form_in}

abbrev pub decreases-clear_part : goal.decreases-clear_part
decreases-clear_part g l = 2 * l.levels + 1

abbrev pub decreases-clear_entries : goal.decreases-clear_entries
decreases-clear_entries g l = 2 * l.levels

abbrev pub invariant-clear_entries-loop-index : goal.invariant-clear_entries-loop-index
invariant-clear_entries-loop-index g l = record {
  keeps : g.P.Pages.keeps l.fn.pages l.pages;
  works : Works (g.P.Pages.store l.fn.pages) (g.P.Pages.store l.pages);
  nothing : CountsNothing (g.P.Pages.store l.fn.pages) (g.P.Pages.store l.pages);
  clears : g.P.Pages.is_tied l.fn.pages
      → ClearsSome (form_in g.S.Summary l.layout) (g.P.Pages.store l.fn.pages).map l.page.bytes l.count
      (g.P.Pages.store l.pages).map l.index l.fn.left l.left;
}
