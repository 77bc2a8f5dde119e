-- Each level is three steps. The entries so far say sound parts.
use Rattle.std.proofs.Common.{◌≡◌, ◌<◌, ◌*◌, ◌+◌, Ok, length}
use Rattle.std.specs.Option.{option_copied}
use Rattle.rs_pages.specs.Lending.{RestsAfter}
use Rattle.rs_page_marks.specs.Marks.{taken}
use Rattle.rs_tree_whole.specs.Checking.{ReachesEntries}
use Rattle.rs_tree_whole.proofs.check.+checking.Given as goal
use Rattle.rs_tree.specs.Forms.{form_in}

abbrev pub decreases-check_part : goal.decreases-check_part
decreases-check_part g l = 3 * l.levels + 2

abbrev pub decreases-check_entries : goal.decreases-check_entries
decreases-check_entries g l = 3 * l.levels + 1

abbrev pub decreases-check_entry : goal.decreases-check_entry
decreases-check_entry g l = 3 * l.levels

abbrev pub invariant-check_entries-loop-index : goal.invariant-check_entries-loop-index
invariant-check_entries-loop-index g l = record {
  rests : RestsAfter {T = Unit {0}} g.P.Pages.is_tied g.P.Pages.store g.P.Pages.keeps (Ok tt) l.fn.pages l.pages;
  size : length l.reached ≡ length l.fn.reached;
  height : l.height < l.levels;
  reaches : g.P.Pages.is_tied l.fn.pages
      → ReachesEntries (form_in g.S.Summary l.layout) (g.P.Pages.store l.fn.pages).map l.page.bytes l.count l.index
      (option_copied l.bound) (taken l.fn.reached) (taken l.reached) l.height l.total;
}
