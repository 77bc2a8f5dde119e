-- The number had no place, and has the last one then.
use Rattle.std.proofs.Common.{◌≡◌, ◌∙◌, length, vec_len, sym, subst, arith, rules}
use Rattle.rs_page_cache.specs.Changes.{Changes, HasPlaces}
use Rattle.rs_page_cache.proofs.Placed.{adds_others, adds_places, adds_there, count_added, count_few, places_longer}
use Rattle.rs_page_cache.proofs.slots.Slots.add.Goals as goal

pub invariant_of-self : goal.invariant_of-self
invariant_of-self c = places_longer _ _ _ c.reach.ensures.same c.reach.ensures.few c.self.invariant

pub invariant_of-self-in_err-push : goal.invariant_of-self-in_err-push
invariant_of-self-in_err-push c = subst (λ (slots : Changes). HasPlaces slots c.reach.new.places.items) (sym c.in_err-push.ensures.items)
    (places_longer _ _ _ c.reach.ensures.same c.reach.ensures.few c.self.invariant)

pub overflow_cast-len : goal.overflow_cast-len
overflow_cast-len c =
    let lens : vec_len c.push.new.self ≡ length c.push.new.self.items = search rules in
    let few = count_few _ _ _ c.self.invariant c.reach.ensures.same c.reach.ensures.few _ c.self.view_is c.args.slot c.requires.none _ c.number-number.ensures c.in_ok-reach.ensures.reaches
    c.len.result (count_added _ _ c.args.slot _ (c.len.ensures ∙ lens) c.in_ok-push.ensures.items) in
    omega (arith, few)

pub invariant_of-self-2 : goal.invariant_of-self-2
invariant_of-self-2 c =
    let lens : vec_len c.push.new.self ≡ length c.push.new.self.items = search rules in
    adds_places _ _ _ c.self.invariant c.reach.ensures.same c.reach.ensures.few _ c.self.view_is c.args.slot c.requires.none _ c.number-number.ensures c.in_ok-reach.ensures.reaches
    c.requires.some _ c.in_ok-push.ensures.items _ (count_added _ _ c.args.slot _ (c.len.ensures ∙ lens) c.in_ok-push.ensures.items)

pub returns-clause-there : goal.returns-clause-there
returns-clause-there c = adds_there _ _ _ c.self.invariant c.reach.ensures.same c.reach.ensures.few _ c.self.view_is c.args.slot c.requires.none _ c.number-number.ensures c.in_ok-reach.ensures.reaches
    _ c.in_ok-push.ensures.items

pub returns-clause-others : goal.returns-clause-others
returns-clause-others c = adds_others _ _ _ c.self.invariant c.reach.ensures.same c.reach.ensures.few _ c.self.view_is c.args.slot c.requires.none _ c.number-number.ensures c.in_ok-reach.ensures.reaches
    _ c.in_ok-push.ensures.items
