-- The tables so far are cleared.
use Rattle.std.proofs.Common.{◌≡◌, ◌≤◌, ℕ}
use Rattle.rs_file_parts.specs.Inner.{ClearsPlaces}
use Rattle.rs_file_parts.specs.Parts.{HaveAllDiedBy, KeepsCommitted, Makes}
use Rattle.rs_page_owners.specs.Changes.{CountsNothing, Works}
use Rattle.rs_file_parts.proofs.clearing.clear_tables.Given as goal

abbrev pub invariant-loop-place : goal.invariant-loop-place
invariant-loop-place g l = record {
  keeps : g.P.Pages.keeps l.fn.pages l.pages;
  works : Works (g.P.Pages.store l.fn.pages) (g.P.Pages.store l.pages);
  nothing : CountsNothing (g.P.Pages.store l.fn.pages) (g.P.Pages.store l.pages);
  few : l.gone ≤ l.bounds.most;
  past : l.from ≤ l.place;
  begun : l.place ≡ l.from → l.gone ≡ 0;
  kept : KeepsCommitted l.fn.file l.file;
  order : (version : ℕ) → HaveAllDiedBy version l.fn.file → HaveAllDiedBy version l.file;
  clears : g.P.Pages.is_tied l.fn.pages → (accepted : ℕ)
      → Makes (g.P.Pages.store l.fn.pages).map (g.P.Pages.store l.pages).map l.fn.file l.file accepted accepted (ClearsPlaces l.bounds.oldest l.bounds.most l.gone l.from l.place);
}
