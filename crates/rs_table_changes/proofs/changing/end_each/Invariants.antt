-- The events of the cells so far have ended.
use Rattle.std.proofs.Common.{◌≤◌, length, take}
use Rattle.rs_attr.specs.Calls.{KeepsTable}
use Rattle.rs_cell_versions.specs.Version.{HaveDiedBy}
use Rattle.rs_page_owners.specs.Changes.{Works, CountsNothing}
use Rattle.rs_records.specs.Listed.{listed}
use Rattle.rs_table_changes.specs.Inner.{Ended}
use Rattle.rs_table_changes.proofs.changing.end_each.Given as goal

abbrev pub invariant-loop-place : goal.invariant-loop-place
invariant-loop-place g l = record {
  keeps : g.P.Pages.keeps l.fn.pages l.pages;
  works : Works (g.P.Pages.store l.fn.pages) (g.P.Pages.store l.pages);
  nothing : CountsNothing (g.P.Pages.store l.fn.pages) (g.P.Pages.store l.pages);
  table : KeepsTable l.fn.table.records l.table.records l.fn.table.indexes.items l.table.indexes.items;
  order : HaveDiedBy l.version l.table.records.working.dead;
  more : length l.fn.table.records.working.dead ≤ length l.table.records.working.dead;
  ended : g.P.Pages.is_tied l.fn.pages
      → Ended (g.P.Pages.store l.fn.pages).map (g.P.Pages.store l.pages).map l.fn.table l.table l.version l.at (take l.place (listed l.cells));
}
