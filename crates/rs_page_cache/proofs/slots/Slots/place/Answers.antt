-- What is written for the number is one more than the place of its slot.
use Rattle.std.proofs.Common.{◌≡◌, ℕ, List, Some, None, IfSome, IfNone, slice_get, subst}
use Rattle.std.specs.BTreeMap.{is_at}
use Rattle.std.specs.Map.{lookup}
use Rattle.std.specs.Ordering.{nat_cmp}
use Rattle.rs_page_cache.specs.Changes.{Changes, held_at}
use Rattle.rs_page_cache.proofs.Placed.{WrittenPlace, found_some, found_none}
use Rattle.rs_page_cache.proofs.slots.Slots.place.Goals as goal

written : (c : goal.After-place_in) → WrittenPlace c.self.inside.places.items c.args.number c.place_in.result
written c = subst (λ (places : List ℕ). WrittenPlace places c.args.number c.place_in.result) c.deref.ensures.value c.place_in.ensures

pub returns-clause-some : goal.returns-clause-some
returns-clause-some c = subst (λ (slots : Changes). IfSome c.place_in.result (λ k. slice_get slots k ≡ Some (c.args.number, held_at slots c.args.number))) c.self.view_is
    (found_some c.self.inside.held.items c.self.inside.places.items c.self.invariant.placed c.args.number c.place_in.result (written c))

pub returns-clause-none : goal.returns-clause-none
returns-clause-none c = subst (λ (slots : Changes). IfNone c.place_in.result (lookup (is_at (nat_cmp c.args.number)) slots ≡ None)) c.self.view_is
    (found_none c.self.inside.held.items c.self.inside.places.items c.self.invariant.placed c.args.number c.place_in.result (written c))
