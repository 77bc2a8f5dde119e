use Rattle.std.proofs.Common.{List, sym, subst}
use Rattle.rs_facts.specs.Fact.{Names}
use Rattle.rs_facts.specs.Query.{Piece}
use Rattle.rs_catalog.specs.Definitions.{AreDefinitions}
use Rattle.rs_catalog.proofs.DefinitionLaws.{are_definitions-without_alignment}
use Rattle.rs_catalog.proofs.catalog.Catalog.drop_alignment.Goals as goal

pub invariant_of-self : goal.invariant_of-self
invariant_of-self c =
    subst (λ (alignments : Names (List Piece)). AreDefinitions (record { routes = c.self.inside.routes; tables = c.self.inside.tables; indexes = c.self.inside.indexes; views = c.self.inside.views; alignments = alignments })) (sym c.remove.ensures)
    (are_definitions-without_alignment _ c.args.name.now.bytes c.self.invariant)
