use Rattle.std.proofs.Common.{subst, sym, map}
use Rattle.rs_methods.specs.Position.{start_name}
use Rattle.rs_methods.specs.Referents.{AreReferents, entry_of}
use Rattle.rs_methods.proofs.ReferentList.{are_referents-put, found_kept, absent_kept, names_apart}
use Rattle.rs_methods.proofs.referents.Referents.insert.Goals as goal

pub invariant_of-self : goal.invariant_of-self
invariant_of-self c =
    subst AreReferents
    (sym (found_kept c.args.route c.args.measure c.args.name.bytes c.as_str.result.now c.self.inside.items.items c.deref.result.now c.in-Ok.place c.index_mut.result.now c.deref.ensures.value c.as_str.ensures.value c.in-Ok.ensures.found c.index_mut.ensures.value))
    (are_referents-put (c.args.route, c.args.name.bytes) c.args.measure (map entry_of c.self.inside.items.items) (names_apart c.args.name.bytes start_name c.requires) c.self.invariant)

pub invariant_of-self-in-Continue-1 : goal.invariant_of-self-in-Continue-1
invariant_of-self-in-Continue-1 c =
    subst AreReferents
    (sym (absent_kept c.as_str.result.now c.self.inside.items.items c.deref.result.now c.insert.new.self.items c.in-Err.place (record { route = c.args.route; name = c.args.name; measure = c.args.measure }) c.deref.ensures.value c.as_str.ensures.value c.in-Err.ensures.absent c.in_ok-insert-in-Err.ensures.items))
    (are_referents-put (c.args.route, c.args.name.bytes) c.args.measure (map entry_of c.self.inside.items.items) (names_apart c.args.name.bytes start_name c.requires) c.self.invariant)
