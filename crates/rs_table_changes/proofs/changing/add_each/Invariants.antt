-- The spans so far have come.
use Rattle.std.proofs.Common.{◌≡◌, map, take}
use Rattle.rs_attr.specs.Calls.{KeepsTable}
use Rattle.rs_facts.specs.Spans.{seen}
use Rattle.rs_page_owners.specs.Changes.{Works, CountsNothing}
use Rattle.rs_table_changes.specs.Chains.{ComeAll}
use Rattle.rs_table_changes.specs.Inner.{ChangesNow}
use Rattle.rs_table_changes.proofs.changing.add_each.Given as goal

abbrev pub invariant-loop-span : goal.invariant-loop-span
invariant-loop-span g l = record {
  keeps : g.P.Pages.keeps l.fn.pages l.pages;
  works : Works (g.P.Pages.store l.fn.pages) (g.P.Pages.store l.pages);
  nothing : CountsNothing (g.P.Pages.store l.fn.pages) (g.P.Pages.store l.pages);
  table : KeepsTable l.fn.table.records l.table.records l.fn.table.indexes.items l.table.indexes.items;
  dead : l.table.records.working.dead ≡ l.fn.table.records.working.dead;
  came : g.P.Pages.is_tied l.fn.pages
      → ChangesNow (g.P.Pages.store l.fn.pages).map (g.P.Pages.store l.pages).map l.fn.table l.table l.version (ComeAll l.route l.version (map seen (take l.span-index l.spans)));
}
