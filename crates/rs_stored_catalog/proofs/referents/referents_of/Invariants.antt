-- The routes so far.
use Rattle.std.proofs.Common.{ℕ, Ok, take}
use Rattle.rs_catalog.specs.Referents.{referents_on}
use Rattle.rs_stored_catalog.specs.Referents.{OfThose}
use Rattle.rs_machine.specs.Lawful.{AreDistinct}
use Rattle.rs_pages.specs.Lending.{RestsAfter}
use Rattle.rs_stored_catalog.proofs.PutReferents.{HaveThose, names_of}
use Rattle.rs_versioned.specs.Referents.{referents_at}
use Rattle.rs_stored_catalog.proofs.referents.referents_of.Given as goal

abbrev pub invariant-loop-route : goal.invariant-loop-route
invariant-loop-route g l = record {
  rests : RestsAfter {T = Unit {0}} g.P.Pages.is_tied g.P.Pages.store g.P.Pages.keeps (Ok tt) l.fn.pages l.pages;
  brings : g.P.Pages.is_tied l.fn.pages → OfThose (g.P.Pages.store l.fn.pages).map l.table (λ referents.
      ((route : ℕ) → AreDistinct (names_of (referents_at l.version route referents))) → HaveThose (take l.route-index l.routes) l.version referents (referents_on l.made));
}
