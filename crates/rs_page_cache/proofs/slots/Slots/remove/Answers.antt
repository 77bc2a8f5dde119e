-- The last slot takes the place.
use Rattle.std.proofs.Common.{◌≡◌, ◌∙◌, ◌-◌, get_or, length, vec_len, ap, arith, rules}
use Rattle.rs_page_cache.proofs.Placed.{reaches_last, reaches_n, removes_others, removes_places, removes_there, within}
use Rattle.rs_page_cache.proofs.slots.Slots.remove.Goals as goal

pub index-requires-2 : goal.index-requires-2
index-requires-2 c =
    let size : vec_len c.self.inside.held ≡ length c.self.inside.held.items = search rules in
    let reach = reaches_n _ _ c.self.invariant _ c.self.view_is _ c.args.number c.requires _ (c.len.ensures ∙ size) _ c.index.ensures _ c.number-last.ensures in
    let list : vec_len c.self.inside.places ≡ length c.self.inside.places.items = search rules in
    omega (arith, reach, list)

pub index_mut-requires : goal.index_mut-requires
index_mut-requires c =
    let size : vec_len c.self.inside.held ≡ length c.self.inside.held.items = search rules in
    let reach = reaches_last _ _ c.self.invariant _ c.self.view_is _ c.args.number c.requires _ (c.len.ensures ∙ size) _ c.index.ensures _ c.number-last.ensures in
    let list : vec_len c.self.inside.places ≡ length c.self.inside.places.items = search rules in
    omega (arith, reach, list)

pub index_mut-requires-2 : goal.index_mut-requires-2
index_mut-requires-2 c =
    let size : vec_len c.self.inside.held ≡ length c.self.inside.held.items = search rules in
    let reach = reaches_n _ _ c.self.invariant _ c.self.view_is _ c.args.number c.requires _ (c.len.ensures ∙ size) _ c.index.ensures _ c.number-last.ensures in
    let list : vec_len c.self.inside.places ≡ length c.self.inside.places.items = search rules in
    omega (arith, reach, list)

pub swap_remove-requires : goal.swap_remove-requires
swap_remove-requires c =
    let size : vec_len c.self.inside.held ≡ length c.self.inside.held.items = search rules in
    let inside = within _ _ c.self.invariant _ c.self.view_is _ c.args.number c.requires _ (c.len.ensures ∙ size) _ c.index.ensures _ c.number-last.ensures in
    omega (arith, inside, size)

pub invariant_of-self : goal.invariant_of-self
invariant_of-self c =
    let size : vec_len c.self.inside.held ≡ length c.self.inside.held.items = search rules in
    let left : vec_len c.swap_remove.new.self ≡ length c.swap_remove.new.self.items = search rules in
    removes_places _ _ c.self.invariant _ c.self.view_is _ c.args.number c.requires _ size _ (c.index.ensures ∙ ap (λ count. get_or c.self.inside.held.items (count - 1) c.index.result.now) c.len.ensures) _ c.number-last.ensures
    _ c.index-2.ensures _ _ c.swap_remove.ensures.value c.swap_remove.ensures.items _ left c.swap_remove.ensures.len c.swap_remove.ensures.by_index.0 c.swap_remove.ensures.by_index.1

pub returns-clause-there : goal.returns-clause-there
returns-clause-there c =
    let size : vec_len c.self.inside.held ≡ length c.self.inside.held.items = search rules in
    let left : vec_len c.swap_remove.new.self ≡ length c.swap_remove.new.self.items = search rules in
    removes_there _ _ c.self.invariant _ c.self.view_is _ c.args.number c.requires _ size _ (c.index.ensures ∙ ap (λ count. get_or c.self.inside.held.items (count - 1) c.index.result.now) c.len.ensures) _ c.number-last.ensures
    _ c.index-2.ensures _ _ c.swap_remove.ensures.value c.swap_remove.ensures.items _ left c.swap_remove.ensures.len c.swap_remove.ensures.by_index.0 c.swap_remove.ensures.by_index.1

pub returns-clause-others : goal.returns-clause-others
returns-clause-others c =
    let size : vec_len c.self.inside.held ≡ length c.self.inside.held.items = search rules in
    let left : vec_len c.swap_remove.new.self ≡ length c.swap_remove.new.self.items = search rules in
    removes_others _ _ c.self.invariant _ c.self.view_is _ c.args.number c.requires _ size _ (c.index.ensures ∙ ap (λ count. get_or c.self.inside.held.items (count - 1) c.index.result.now) c.len.ensures) _ c.number-last.ensures
    _ c.index-2.ensures _ _ c.swap_remove.ensures.value c.swap_remove.ensures.items _ left c.swap_remove.ensures.len c.swap_remove.ensures.by_index.0 c.swap_remove.ensures.by_index.1
