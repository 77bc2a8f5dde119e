use Rattle.std.proofs.Common.{sym, subst}
use Rattle.rs_facts.specs.Fact.{Names}
use Rattle.rs_catalog.specs.Definitions.{TableItem, IndexItem, AreDefinitions}
use Rattle.rs_catalog.specs.Changes.{indexes_of_others}
use Rattle.rs_catalog.proofs.DefinitionLaws.{are_definitions-without_table}
use Rattle.rs_catalog.proofs.catalog.Catalog.drop_table.Goals as goal

pub invariant_of-self : goal.invariant_of-self
invariant_of-self c =
    subst (λ (indexes : Names IndexItem). AreDefinitions (record { routes = c.self.inside.routes; tables = c.remove.new.self; indexes = indexes; views = c.self.inside.views; alignments = c.self.inside.alignments })) (sym c.remove_of_table.ensures)
    (subst (λ (tables : Names TableItem). AreDefinitions (record { routes = c.self.inside.routes; tables = tables; indexes = indexes_of_others c.args.name.now.bytes c.self.inside.indexes; views = c.self.inside.views; alignments = c.self.inside.alignments })) (sym c.remove.ensures)
    (are_definitions-without_table _ c.args.name.now.bytes c.self.invariant))
