-- The slot at its place is committed.
use Rattle.rs_page_cache.specs.Changes.{committed_held}
use Rattle.rs_page_cache.proofs.Placed.{held_changed, others_changed, places_changed, some_there}
use Rattle.rs_page_cache.proofs.slots.Slots.commit.Goals as goal

pub invariant_of-self : goal.invariant_of-self
invariant_of-self c = places_changed _ _ c.self.invariant _ c.self.view_is _ c.args.number c.in-Some.ensures.some _ _ c.index_mut.ensures.value committed_held c.commit.ensures
    (some_there _ _ c.self.invariant _ c.self.view_is _ c.args.number c.in-Some.ensures.some _ _ c.index_mut.ensures.value committed_held c.commit.ensures)

pub returns-in-Some-clause-there : goal.returns-in-Some-clause-there
returns-in-Some-clause-there c = held_changed _ _ c.self.invariant _ c.self.view_is _ c.args.number c.in-Some.ensures.some _ _ c.index_mut.ensures.value committed_held c.commit.ensures

pub returns-in-Some-clause-others : goal.returns-in-Some-clause-others
returns-in-Some-clause-others c = others_changed _ _ c.self.invariant _ c.self.view_is _ c.args.number c.in-Some.ensures.some _ _ c.index_mut.ensures.value committed_held c.commit.ensures
