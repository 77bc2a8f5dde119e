-- From this page on the bytes are written.
use Rattle.std.proofs.Common.{◌≡◌, ◌≤◌, Ok, length, drop}
use Rattle.rs_page_owners.specs.Changes.{WorksAfter}
use Rattle.rs_catalog_pages.specs.Chain.{HoldsFrom}
use Rattle.rs_catalog_pages.specs.Inner.{parts_from}
use Rattle.rs_catalog_pages.specs.Places.{number_from}
use Rattle.rs_catalog_pages.specs.Storing.{AreInUse, MovesPages}
use Rattle.rs_catalog_pages.proofs.storing.write_parts.Given as goal

abbrev pub invariant-loop-index : goal.invariant-loop-index
invariant-loop-index g l = record {
  keeps : g.P.Pages.keeps l.fn.pages l.pages;
  works : WorksAfter {T = Unit {0}} ⊥ (Ok tt) (g.P.Pages.store l.fn.pages) (g.P.Pages.store l.pages);
  moves : g.P.Pages.is_tied l.fn.pages → MovesPages (g.P.Pages.store l.fn.pages).map (g.P.Pages.store l.pages).map l.numbers l.numbers;
  holds : g.P.Pages.is_tied l.fn.pages → AreInUse (g.P.Pages.store l.fn.pages).map l.numbers
      → HoldsFrom (g.P.Pages.store l.pages).map (number_from l.numbers l.index) (drop l.index l.numbers) (parts_from l.bytes l.index);
  within : l.index ≤ length l.numbers;
  as_many : (g.P.Pages.store l.pages).map.fields.pages ≡ (g.P.Pages.store l.fn.pages).map.fields.pages;
}

abbrev pub decreases-loop-index : goal.decreases-loop-index
decreases-loop-index g l = l.index
