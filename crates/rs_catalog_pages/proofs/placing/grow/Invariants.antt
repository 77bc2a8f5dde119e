-- The pages so far are in use where those before were.
use Rattle.std.proofs.Common.{◌≡◌, ◌≤◌, ◌+◌, ◌-◌, Ok, length, max, take}
use Rattle.rs_page_owners.specs.Changes.{WorksAfter}
use Rattle.rs_catalog_pages.specs.Storing.{MovesPages}
use Rattle.rs_catalog_pages.proofs.placing.grow.Given as goal

abbrev pub invariant-loop-pages : goal.invariant-loop-pages
invariant-loop-pages g l = record {
  keeps : g.P.Pages.keeps l.fn.pages l.pages;
  works : WorksAfter {T = Unit {0}} ⊥ (Ok tt) (g.P.Pages.store l.fn.pages) (g.P.Pages.store l.pages);
  moves : g.P.Pages.is_tied l.fn.pages → MovesPages (g.P.Pages.store l.fn.pages).map (g.P.Pages.store l.pages).map l.fn.numbers.items l.numbers.items;
  longer : length l.fn.numbers.items ≤ length l.numbers.items;
  kept : take (length l.fn.numbers.items) l.numbers.items ≡ l.fn.numbers.items;
  few : length l.numbers.items ≤ max l.count (length l.fn.numbers.items);
  as_many : (g.P.Pages.store l.pages).map.fields.pages + length l.fn.numbers.items ≤ (g.P.Pages.store l.fn.pages).map.fields.pages + length l.numbers.items;
}

abbrev pub decreases-loop-pages : goal.decreases-loop-pages
decreases-loop-pages g l = l.count - length l.numbers.items
