use Rattle.std.proofs.Common.{◌≡◌, false, sym, subst}
use Rattle.rs_facts.specs.Fact.{Names}
use Rattle.rs_catalog.specs.Definitions.{RouteItem, Definitions, AreDefinitions}
use Rattle.rs_catalog.specs.Uses.{some_piece_on}
use Rattle.rs_catalog.proofs.DefinitionLaws.{are_definitions-without_route}
use Rattle.rs_catalog.proofs.catalog.Catalog.drop_route.Goals as goal

pub invariant_of-self : goal.invariant_of-self
invariant_of-self c =
    subst (λ (routes : Names RouteItem). AreDefinitions (record { routes = routes; tables = c.self.inside.tables; indexes = c.self.inside.indexes; views = c.self.inside.views; alignments = c.self.inside.alignments })) (sym c.remove.ensures)
    (are_definitions-without_route _ c.args.name.now.bytes c.self.invariant
    (subst (λ (d : Definitions). some_piece_on d c.args.name.now.bytes ≡ false) (sym c.self.view_is) c.requires.unused))
