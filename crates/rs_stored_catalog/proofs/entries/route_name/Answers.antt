use Rattle.std.proofs.Common.{◌≤◌, length, map, string_bytes, sym, ap, subst, ◌∙◌}
use Rattle.rs_catalog_meaning.specs.Meaning.{ends_of}
use Rattle.rs_catalog_meaning.specs.Stating.{name_with}
use Rattle.rs_catalog_pages.specs.Items.{RouteItem}
use Rattle.rs_catalog_pages.specs.Said.{said_route}
use Rattle.rs_grammar.specs.declared.kind.TheConstants.{NAME_BYTES}
use Rattle.rs_machine.specs.Lawful.{IsRoute}
use Rattle.rs_stored_catalog.proofs.Entering.{each_said, said_there}
use Rattle.rs_stored_catalog.proofs.Found.{name_with-none, name_with-there}
use Rattle.rs_stored_catalog.proofs.entries.route_name.Goals as goal

pub name_of-requires : goal.name_of-requires
name_of-requires c =
    let there = c.in-Some.ensures.route.0 in
    let is = each_said said_route (λ (r : RouteItem). IsRoute r.name (ends_of r)) c.args.routes.now there.0 c.in-Some.route.now there.1 (sym there.2) c.requires.routes.each in
    subst (λ text. length text ≤ NAME_BYTES) (sym (c.as_str.ensures.value ∙ ap string_bytes c.deref.ensures)) is.named.short

pub returns-in-Some : goal.returns-in-Some
returns-in-Some c =
    c.name_of.ensures ∙ c.as_str.ensures.value ∙ ap string_bytes c.deref.ensures
    ∙ sym (name_with-there (map said_route c.args.routes.now) (said_route c.in-Some.route.now) c.requires.routes (said_there said_route c.args.routes.now c.in-Some.route.now c.in-Some.ensures.route.0))
    ∙ ap (name_with (map said_route c.args.routes.now)) c.in-Some.ensures.route.1

pub returns-in-None : goal.returns-in-None
returns-in-None c = c.new.ensures ∙ sym (name_with-none c.args.routes.now c.args.number c.in-None.ensures.none)
