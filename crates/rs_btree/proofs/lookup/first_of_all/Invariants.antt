-- The cells so far are there.
use Rattle.std.proofs.Common.{◌≤◌, ◌-◌, Ok, length}
use Rattle.rs_pages.specs.Lending.{RestsAfter}
use Rattle.rs_records.specs.Listed.{listed}
use Rattle.rs_tree.specs.Forms.{form_in}
use Rattle.rs_btree.proofs.Parts.{TellsSome}
use Rattle.rs_btree.proofs.lookup.first_of_all.Given as goal

abbrev pub invariant-loop-at : goal.invariant-loop-at
invariant-loop-at g l = record {
  rests : RestsAfter {T = Unit {0}} g.P.Pages.is_tied g.P.Pages.store g.P.Pages.keeps (Ok tt) l.fn.pages l.pages;
  upto : l.at ≤ length (listed l.cells);
  some : g.P.Pages.is_tied l.fn.pages → TellsSome (form_in g.S.Summary l.layout) (g.P.Pages.store l.fn.pages).map l.root (listed l.cells) 0 l.at;
}

abbrev pub decreases-loop-at : goal.decreases-loop-at
decreases-loop-at g l = length (listed l.cells) - l.at
