use Rattle.std.proofs.Common.{◌≡◌, ◌∙◌, not, ap, subst, sym, map, filter, rules}
use Rattle.std.proofs.lemmas.Fn.{filter_same}
use Rattle.rs_methods.specs.declared.referents.Referent.{Referent}
use Rattle.rs_methods.specs.Referents.{AreReferents, entry_of, is_key}
use Rattle.rs_methods.proofs.ReferentList.{are_referents-filter, map-filter}
use Rattle.rs_methods.proofs.referents.Referents.remove.Goals as goal

pub invariant_of-self : goal.invariant_of-self
invariant_of-self c =
    let kept : c.retain.new.self.items ≡ filter (λ (x : Referent). not (is_key c.args.route c.args.name.now (entry_of x).0)) c.self.inside.items.items = filter_same _ (λ (x : Referent). not (is_key c.args.route c.args.name.now (entry_of x).0)) _ (λ x b f' k. search rules) _ _ c.retain.ensures.filtered in
    subst AreReferents (sym (ap (map entry_of) kept ∙ map-filter (λ key. not (is_key c.args.route c.args.name.now key)) c.self.inside.items.items))
    (are_referents-filter (λ key. not (is_key c.args.route c.args.name.now key)) (map entry_of c.self.inside.items.items) c.self.invariant)

pub returns : goal.returns
returns c =
    let kept : c.retain.new.self.items ≡ filter (λ (x : Referent). not (is_key c.args.route c.args.name.now (entry_of x).0)) c.self.inside.items.items = filter_same _ (λ (x : Referent). not (is_key c.args.route c.args.name.now (entry_of x).0)) _ (λ x b f' k. search rules) _ _ c.retain.ensures.filtered in
    ap (map entry_of) kept ∙ (map-filter (λ key. not (is_key c.args.route c.args.name.now key)) c.self.inside.items.items ∙ ap (filter (λ e. not (is_key c.args.route c.args.name.now e.0))) c.self.view_is)
