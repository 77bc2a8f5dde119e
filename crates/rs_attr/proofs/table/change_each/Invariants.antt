-- The first indexes have changed.
use Rattle.std.proofs.Common.{◌≡◌, length, take, drop}
use Rattle.rs_attr.proofs.Together.{ChangePartly}
use Rattle.rs_attr.specs.Inner.{changed}
use Rattle.rs_attr.specs.Tables.{kept_parts}
use Rattle.rs_page_owners.specs.Changes.{Works, CountsNothing}
use Rattle.rs_attr.proofs.table.change_each.Given as goal

abbrev pub invariant-loop-place : goal.invariant-loop-place
invariant-loop-place g l = record {
  keeps : g.P.Pages.keeps l.fn.pages l.pages;
  works : Works (g.P.Pages.store l.fn.pages) (g.P.Pages.store l.pages);
  nothing : CountsNothing (g.P.Pages.store l.fn.pages) (g.P.Pages.store l.pages);
  kept : kept_parts l.indexes ≡ kept_parts l.fn.indexes;
  changed : g.P.Pages.is_tied l.fn.pages
      → ChangePartly (g.P.Pages.store l.fn.pages).map (g.P.Pages.store l.pages).map l.fn.indexes (take l.place l.indexes) (drop l.place l.indexes) (length l.cell) (changed l.change l.cell);
}
