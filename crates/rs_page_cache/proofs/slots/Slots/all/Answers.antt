-- Each slot is that of another page, and holds something.
use Rattle.std.proofs.Common.{subst}
use Rattle.rs_page_cache.specs.Changes.{ListsHeld}
use Rattle.rs_page_cache.proofs.Placed.{lists_held}
use Rattle.rs_page_cache.proofs.slots.Slots.all.Goals as goal

pub returns-clause-pages : goal.returns-clause-pages
returns-clause-pages c = subst ListsHeld c.self.view_is (lists_held c.self.inside.held.items c.self.inside.places.items c.self.invariant.placed c.self.invariant.some)
