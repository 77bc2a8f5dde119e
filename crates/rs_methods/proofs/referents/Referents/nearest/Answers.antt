use Rattle.std.proofs.Common.{◌≤◌, ◌∙◌, List, ap, subst, sym, map}
use Rattle.rs_methods.specs.declared.referents.Referent.{Referent}
use Rattle.rs_methods.specs.Position.{nearest_from}
use Rattle.rs_methods.specs.Referents.{AreReferents, entry_of, mark_of}
use Rattle.rs_methods.proofs.Nearest.{Mark, nearest_from_not_above, found_by_code}
use Rattle.rs_methods.proofs.referents.Referents.nearest.Goals as goal

pub returns-clause-not_above : goal.returns-clause-not_above
returns-clause-not_above c =
    subst (λ (m : Mark). m.1 ≤ c.args.k) (sym c.nearest_in.ensures)
    (nearest_from_not_above c.args.k (c.start_referent.result.bytes, c.args.route.now.start) (map mark_of c.of_route.result.now) c.requires)

pub returns-clause-found : goal.returns-clause-found
returns-clause-found c =
    found_by_code c.args.route.now.start c.args.k c.args.route.now.number c.args.self.now c.deref.result.now c.start_referent.result.bytes (mark_of c.nearest_in.result) c.start_referent.ensures
    (ap (map entry_of) c.deref.ensures.value ∙ c.self.view_is) (c.nearest_in.ensures ∙ ap (nearest_from c.args.k (c.start_referent.result.bytes, c.args.route.now.start)) c.of_route.ensures)
    (subst (λ (l : List Referent). AreReferents (map entry_of l)) (sym c.deref.ensures.value) c.self.invariant)
