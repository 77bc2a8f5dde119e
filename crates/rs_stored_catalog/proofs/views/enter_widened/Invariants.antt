use Rattle.std.proofs.Common.{map}
use Rattle.rs_catalog_pages.specs.Said.{said_view}
use Rattle.rs_stored_catalog.specs.EnteringViews.{IsWidenedOf}
use Rattle.rs_stored_catalog.proofs.EnteredViews.{Entered}
use Rattle.rs_stored_catalog.proofs.views.enter_widened.Given as goal

-- the first of the views are entered
abbrev pub invariant-loop-view : goal.invariant-loop-view
invariant-loop-view l = Entered IsWidenedOf (λ view entry is. is.named) (map said_view l.views) l.view-index l.fn.catalog l.catalog
