-- The cells so far are taken out of each index.
use Rattle.std.proofs.Common.{◌≡◌, take}
use Rattle.rs_attr.specs.Inner.{ChangeIndexes}
use Rattle.rs_attr.specs.Tables.{kept_parts}
use Rattle.rs_page_owners.specs.Changes.{Works, CountsNothing}
use Rattle.rs_records.specs.Listed.{listed}
use Rattle.rs_versioned.specs.Events.{event_width}
use Rattle.rs_cell_versions.specs.Changes.{without_cells}
use Rattle.rs_attr.proofs.table.vacuum.Given as goal

abbrev pub invariant-loop-place : goal.invariant-loop-place
invariant-loop-place g l = record {
  keeps : g.P.Pages.keeps l.initial.pages l.pages;
  works : Works (g.P.Pages.store l.initial.pages) (g.P.Pages.store l.pages);
  nothing : CountsNothing (g.P.Pages.store l.initial.pages) (g.P.Pages.store l.pages);
  kept : kept_parts l.indexes ≡ kept_parts l.fn.indexes;
  taken : g.P.Pages.is_tied l.initial.pages
      → ChangeIndexes (g.P.Pages.store l.initial.pages).map (g.P.Pages.store l.pages).map l.fn.indexes l.indexes (event_width l.fn.table.types) (without_cells (take l.place (listed l.taken)));
}
