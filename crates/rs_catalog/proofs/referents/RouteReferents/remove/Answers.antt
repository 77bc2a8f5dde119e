use Rattle.std.proofs.Common.{not, filter, sym, ap, ◌∙◌}
use Rattle.std.specs.Option.{option_copied_mut}
use Rattle.std.specs.FinMap as maps
use Rattle.rs_catalog.specs.Referents.{referents_on}
use Rattle.rs_methods.specs.Referents.{is_key}
use Rattle.rs_catalog.specs.declared.referents.TheConstants.{OWN_ROUTE}
use Rattle.rs_catalog.proofs.Numbered.{numbered, numbered-put}
use Rattle.rs_catalog.proofs.MapLaws.{some_there}
use Rattle.rs_catalog.proofs.ReferentLaws.{Held, ByNumber, held_at, found_list, found_no_list, referent_removed, nothing_removed}
use Rattle.rs_catalog.proofs.referents.RouteReferents.remove.Goals as goal

pub returns : goal.returns
returns c =
    let there = found_list c.self.inside.by_route.entries c.args.self.now c.args.number _ c.self.view_is (sym c.in-Some.ensures.value) in
    let puts = ((c.get_mut.follows.holds c.remove.new.self).3 (some_there _ _ (sym c.in-Some.ensures.value))).0 in
    let put = numbered-put c.self.inside.by_route.entries _ c.args.number c.remove.new.self puts in
    let gone = c.remove.ensures ∙ ap (λ name. filter (λ e. not (is_key OWN_ROUTE name e.0)) c.in-Some.referents.now) c.as_str.ensures.value in
    referent_removed c.args.self.now _ c.args.number c.args.name.now.bytes c.in-Some.referents.now (held_at c.args.self.now c.args.number _ there)
    (put ∙ ap (λ (old : Held). maps.insert old c.args.number c.remove.new.self) c.self.view_is ∙ ap (maps.insert c.args.self.now c.args.number) gone)

pub returns-in_default : goal.returns-in_default
returns-in_default c =
    let there = found_no_list c.self.inside.by_route.entries c.args.self.now c.args.number c.self.view_is (sym c.get_mut.ensures.value ∙ ap option_copied_mut c.in_default.is) in
    ap (λ (by_route : ByNumber). referents_on (numbered by_route.entries)) c.get_mut.follows.holds-at-none ∙ ap referents_on c.self.view_is
    ∙ nothing_removed c.args.self.now c.args.number c.args.name.now.bytes there
