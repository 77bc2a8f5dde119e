-- The referents of the first cells have ended.
use Rattle.std.proofs.Common.{◌≡◌, ◌≤◌, ℕ}
use Rattle.rs_cell_versions.specs.Version.{HaveDiedBy}
use Rattle.rs_changes.proofs.EndedReferents.{EndsFirst}
use Rattle.rs_page_owners.specs.Changes.{CountsNothing, Works}
use Rattle.rs_records.specs.Listed.{listed}
use Rattle.rs_versioned.specs.Records.{ChangesRecords}
use Rattle.rs_versioned.specs.Referents.{kept_referents}
use Rattle.rs_changes.proofs.definitions.end_referents_on.Given as goal

abbrev pub invariant-loop-place : goal.invariant-loop-place
invariant-loop-place g l = record {
  keeps : g.P.Pages.keeps l.fn.pages l.pages;
  works : Works (g.P.Pages.store l.fn.pages) (g.P.Pages.store l.pages);
  nothing : CountsNothing (g.P.Pages.store l.fn.pages) (g.P.Pages.store l.pages);
  committed : l.referents.committed ≡ l.fn.referents.committed;
  order : HaveDiedBy l.version l.referents.working.dead;
  ends : g.P.Pages.is_tied l.fn.pages → (accepted : ℕ) → accepted ≤ l.version
      → ChangesRecords kept_referents (g.P.Pages.store l.fn.pages).map (g.P.Pages.store l.pages).map l.fn.referents.working l.referents.working accepted l.version
      (EndsFirst l.version l.route (listed l.cells) l.place);
}
