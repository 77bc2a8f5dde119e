-- The first indexes have no entries left.
use Rattle.std.proofs.Common.{◌≡◌, [], take, drop}
use Rattle.std.specs.List.{AllByRecursion}
use Rattle.rs_attr.proofs.Together.{ChangePartly}
use Rattle.rs_attr.specs.Tables.{kept_parts}
use Rattle.rs_page_owners.specs.Changes.{Works, CountsNothing}
use Rattle.rs_versioned.specs.Events.{event_width}
use Rattle.rs_attr.proofs.table.clear.Given as goal

abbrev pub invariant-loop-place : goal.invariant-loop-place
invariant-loop-place g l = record {
  keeps : g.P.Pages.keeps l.initial.pages l.pages;
  works : Works (g.P.Pages.store l.initial.pages) (g.P.Pages.store l.pages);
  nothing : CountsNothing (g.P.Pages.store l.initial.pages) (g.P.Pages.store l.pages);
  kept : kept_parts l.indexes ≡ kept_parts l.fn.indexes;
  roots : AllByRecursion (λ index. index.working ≡ 0) (take l.place l.indexes);
  cleared : g.P.Pages.is_tied l.initial.pages
      → ChangePartly (g.P.Pages.store l.initial.pages).map (g.P.Pages.store l.pages).map l.fn.indexes (take l.place l.indexes) (drop l.place l.indexes) (event_width l.fn.table.types) (λ _. []);
}
