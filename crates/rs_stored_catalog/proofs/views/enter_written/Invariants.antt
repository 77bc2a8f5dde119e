use Rattle.std.proofs.Common.{map}
use Rattle.rs_catalog.specs.Referents.{referents_on}
use Rattle.rs_catalog_pages.specs.Said.{said_view}
use Rattle.rs_stored_catalog.specs.EnteringViews.{IsWrittenOf}
use Rattle.rs_stored_catalog.proofs.EnteredViews.{Entered}
use Rattle.rs_stored_catalog.proofs.views.enter_written.Given as goal

-- the first of the views are entered
abbrev pub invariant-loop-view : goal.invariant-loop-view
invariant-loop-view l =
    Entered (IsWrittenOf l.fn.catalog (referents_on l.fn.referents)) (λ view entry is. is.is.named) (map said_view l.views) l.view-index l.fn.catalog l.catalog
