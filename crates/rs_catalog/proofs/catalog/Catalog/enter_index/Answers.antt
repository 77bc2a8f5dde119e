use Rattle.std.proofs.Common.{sym, subst}
use Rattle.std.specs.FinMap as names
use Rattle.rs_facts.specs.Fact.{Names}
use Rattle.rs_catalog.specs.Definitions.{IndexItem, Definitions, IsFree, IsColumnOf, AreDefinitions}
use Rattle.rs_catalog.proofs.DefinitionLaws.{are_definitions-index, tried}
use Rattle.rs_catalog.proofs.catalog.Catalog.enter_index.Goals as goal

pub invariant_of-self : goal.invariant_of-self
invariant_of-self c =
    let free : IsFree (λ (item : IndexItem). item.number) c.self.inside.indexes c.args.index.number =
    subst (λ (d : Definitions). IsFree (λ (item : IndexItem). item.number) d.indexes c.args.index.number) (sym c.self.view_is) c.requires.free in
    let of : IsColumnOf c.self.inside.tables c.args.index.table c.args.index.table_number c.args.index.column =
    subst (λ (d : Definitions). IsColumnOf d.tables c.args.index.table c.args.index.table_number c.args.index.column) (sym c.self.view_is) c.requires.of in
    tried (λ (indexes : Names IndexItem). AreDefinitions (record { routes = c.self.inside.routes; tables = c.self.inside.tables; indexes = indexes; views = c.self.inside.views; alignments = c.self.inside.alignments }))
    c.define.result c.self.inside.indexes (names.insert c.self.inside.indexes c.args.name.bytes c.args.index) c.define.new.self c.self.invariant
    (are_definitions-index _ c.args.name.bytes c.args.index c.self.invariant free (c.requires.below, of)) c.define.ensures.ok c.define.ensures.err
