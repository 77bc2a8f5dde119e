use Rattle.std.proofs.Common.{sym, subst}
use Rattle.rs_facts.specs.Fact.{Names}
use Rattle.rs_catalog.specs.Definitions.{IndexItem, AreDefinitions}
use Rattle.rs_catalog.proofs.DefinitionLaws.{are_definitions-without_index}
use Rattle.rs_catalog.proofs.catalog.Catalog.drop_index.Goals as goal

pub invariant_of-self : goal.invariant_of-self
invariant_of-self c =
    subst (λ (indexes : Names IndexItem). AreDefinitions (record { routes = c.self.inside.routes; tables = c.self.inside.tables; indexes = indexes; views = c.self.inside.views; alignments = c.self.inside.alignments })) (sym c.remove.ensures)
    (are_definitions-without_index _ c.args.name.now.bytes c.self.invariant)
