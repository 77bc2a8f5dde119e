-- Those that are left have their places.
use Rattle.std.proofs.Common.{vec_len}
use Rattle.rs_page_cache.specs.Changes.{HasPlaces}
use Rattle.rs_page_cache.proofs.slots.Slots.clear.Given as goal

abbrev pub invariant-loop-slot : goal.invariant-loop-slot
invariant-loop-slot l = HasPlaces l.self-inside.held.items l.self-inside.places.items

abbrev pub decreases-loop-slot : goal.decreases-loop-slot
decreases-loop-slot l = vec_len l.self-inside.held
