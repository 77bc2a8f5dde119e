-- The copy is put into the slot at its place.
use Rattle.std.proofs.Common.{refl}
use Rattle.rs_pages.specs.Held.{with_copy}
use Rattle.rs_page_cache.proofs.Placed.{held_changed, others_changed, places_changed}
use Rattle.rs_page_cache.proofs.slots.Slots.put_copy.Goals as goal

pub invariant_of-self : goal.invariant_of-self
invariant_of-self c = places_changed _ _ c.self.invariant _ c.self.view_is _ c.args.number c.in-Some.ensures.some _ _ c.index_mut.ensures.value (with_copy c.args.page.value.bytes) c.put_copy.ensures
    refl

pub returns-in-Some-clause-there : goal.returns-in-Some-clause-there
returns-in-Some-clause-there c = held_changed _ _ c.self.invariant _ c.self.view_is _ c.args.number c.in-Some.ensures.some _ _ c.index_mut.ensures.value (with_copy c.args.page.value.bytes) c.put_copy.ensures

pub returns-in-Some-clause-others : goal.returns-in-Some-clause-others
returns-in-Some-clause-others c = others_changed _ _ c.self.invariant _ c.self.view_is _ c.args.number c.in-Some.ensures.some _ _ c.index_mut.ensures.value (with_copy c.args.page.value.bytes) c.put_copy.ensures
