use Rattle.std.proofs.Common.{List, sym, subst}
use Rattle.rs_facts.specs.Fact.{Names}
use Rattle.rs_facts.specs.Query.{Piece}
use Rattle.rs_catalog.specs.Definitions.{RouteItem, TableItem, IndexItem, ViewItem, no_definitions, AreDefinitions}
use Rattle.rs_catalog.proofs.DefinitionLaws.{are_definitions-empty}
use Rattle.rs_catalog.proofs.catalog.Catalog.new.Goals as goal

pub invariant_of-result : goal.invariant_of-result
invariant_of-result c =
    subst (λ (alignments : Names (List Piece)). AreDefinitions (record { routes = c.new.result; tables = c.new-2.result; indexes = c.new-3.result; views = c.new-4.result; alignments = alignments })) (sym c.new-5.ensures)
    (subst (λ (views : Names ViewItem). AreDefinitions (record no_definitions { routes = c.new.result; tables = c.new-2.result; indexes = c.new-3.result; views = views })) (sym c.new-4.ensures)
    (subst (λ (indexes : Names IndexItem). AreDefinitions (record no_definitions { routes = c.new.result; tables = c.new-2.result; indexes = indexes })) (sym c.new-3.ensures)
    (subst (λ (tables : Names TableItem). AreDefinitions (record no_definitions { routes = c.new.result; tables = tables })) (sym c.new-2.ensures)
    (subst (λ (routes : Names RouteItem). AreDefinitions (record no_definitions { routes = routes })) (sym c.new.ensures) are_definitions-empty))))
