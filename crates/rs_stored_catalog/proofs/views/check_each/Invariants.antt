use Rattle.rs_catalog.specs.Referents.{referents_on}
use Rattle.rs_stored_catalog.proofs.CheckedViews.{Passed}
use Rattle.rs_stored_catalog.proofs.views.check_each.Given as goal

-- the views so far pass
abbrev pub invariant-loop-view : goal.invariant-loop-view
invariant-loop-view l = Passed l.catalog (referents_on l.referents) l.initial.view-iterator l.view-iterator
