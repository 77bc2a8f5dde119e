-- The last slot is taken out, with its place.
use Rattle.std.proofs.Common.{slice_set, sym, subst}
use Rattle.rs_page_cache.specs.Changes.{HasPlaces}
use Rattle.rs_page_cache.proofs.Placed.{pops_places}
use Rattle.rs_page_cache.proofs.slots.Slots.clear.Goals as goal

pub loop-slot-preserved-in-Some : goal.loop-slot-preserved-in-Some
loop-slot-preserved-in-Some c = subst (λ n. HasPlaces c.pop.new.self.items (slice_set c.loop-slot.self-inside.places.items n 0)) (sym c.number.ensures)
    (pops_places _ _ c.in-Some.slot _ c.loop-slot.invariant c.in-Some.ensures.items)

pub loop-slot-preserved : goal.loop-slot-preserved
loop-slot-preserved c = subst (λ n. HasPlaces c.pop.new.self.items (slice_set c.loop-slot.self-inside.places.items n 0)) (sym c.number.ensures)
    (pops_places _ _ c.in-Some.slot _ c.loop-slot.invariant c.in-Some.ensures.items)
