-- The cells so far are dated and were counted, each says a referent, and those before the route are meant.
use Rattle.std.proofs.Common.{◌≡◌, ◌<◌, ◌^◌, Ok, nat_lt}
use Rattle.rs_pages.specs.Lending.{RestsAfter}
use Rattle.rs_cell_versions.specs.Opening.{HasPassed, told_of}
use Rattle.rs_versioned.specs.Referents.{SaysReferent, referent_form, referent_width}
use Rattle.rs_versioned.proofs.MeantOpened.{MeantFor, low_of}
use Rattle.rs_versioned.proofs.MeantRoutes.{before, from_of}
use Rattle.rs_versioned.proofs.Opened.{SaysBelow}
use Rattle.rs_versioned.proofs.opening.RecordTable+Referents.open.Given as goal

abbrev pub invariant-loop-route : goal.invariant-loop-route
invariant-loop-route g l = record {
  rests : RestsAfter {T = Unit {0}} g.P.Pages.is_tied g.P.Pages.store g.P.Pages.keeps (Ok tt) l.fn.pages l.pages;
  told : l.opening.told ≡ told_of referent_width l.fn.told;
  passed : g.P.Pages.is_tied l.fn.pages → HasPassed referent_form (g.P.Pages.store l.fn.pages).map l.opening;
  say : g.P.Pages.is_tied l.fn.pages → SaysBelow SaysReferent referent_form (g.P.Pages.store l.fn.pages).map l.fn.told.root l.opening.low;
  on : l.on ≡ before l.fn.routes l.route-index;
  low : l.opening.low ≡ low_of l.on;
  fits : from_of l.on < 2 ^ 32;
  meant : g.P.Pages.is_tied l.fn.pages → MeantFor l.fn.routes l.fn.told.accepted (g.P.Pages.store l.fn.pages).map l.fn.told.root (λ n. nat_lt n (from_of l.on));
}
