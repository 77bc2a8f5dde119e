use Rattle.std.proofs.Common.{◌≡◌, false, sym, subst}
use Rattle.std.specs.FinMap as names
use Rattle.rs_facts.specs.Fact.{Names}
use Rattle.rs_machine.specs.State.{has}
use Rattle.rs_catalog.specs.Definitions.{TableItem, Definitions, IsFree, AreDefinitions}
use Rattle.rs_catalog.proofs.DefinitionLaws.{are_definitions-table, tried}
use Rattle.rs_catalog.proofs.catalog.Catalog.enter_table.Goals as goal

pub invariant_of-self : goal.invariant_of-self
invariant_of-self c =
    let new : has c.self.inside.tables c.args.name.bytes ≡ false = subst (λ (d : Definitions). has d.tables c.args.name.bytes ≡ false) (sym c.self.view_is) c.requires.new in
    let free : IsFree (λ (item : TableItem). item.number) c.self.inside.tables c.args.table.number =
    subst (λ (d : Definitions). IsFree (λ (item : TableItem). item.number) d.tables c.args.table.number) (sym c.self.view_is) c.requires.free in
    tried (λ (tables : Names TableItem). AreDefinitions (record { routes = c.self.inside.routes; tables = tables; indexes = c.self.inside.indexes; views = c.self.inside.views; alignments = c.self.inside.alignments }))
    c.define.result c.self.inside.tables (names.insert c.self.inside.tables c.args.name.bytes c.args.table) c.define.new.self c.self.invariant
    (are_definitions-table _ c.args.name.bytes c.args.table c.self.invariant new free (c.requires.below, c.requires.columns)) c.define.ensures.ok c.define.ensures.err
