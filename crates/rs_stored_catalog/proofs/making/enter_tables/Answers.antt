use Rattle.std.proofs.Common.{◌<◌, ◌≤◌, length, map, refl, sym, ap, subst, ◌∙◌, arith}
use Rattle.std.proofs.lemmas.List.{length-map}
use Rattle.rs_catalog.specs.Definitions as catalog
use Rattle.rs_catalog.specs.Definitions.{Definitions, IsColumnOf, IsFree}
use Rattle.rs_catalog_meaning.specs.Meaning as meaning
use Rattle.rs_catalog_meaning.specs.Meaning.{ends_of}
use Rattle.rs_catalog_pages.specs.Items.{TableItem}
use Rattle.rs_catalog_pages.specs.Said.{said_table}
use Rattle.rs_facts.specs.Fact.{Name, Names}
use Rattle.rs_file_meaning.specs.States.{named_table}
use Rattle.rs_grammar.specs.declared.kind.TheConstants.{NAME_BYTES}
use Rattle.rs_machine.specs.State.{has}
use Rattle.rs_stored_catalog.proofs.Entering.{each_said, next-free, next-new, nothing, said_at, so_far, step, whole}
use Rattle.rs_catalog.specs.Changes.{with_table}
use Rattle.rs_catalog_pages.specs.declared.directory_items.TheConstants as file
use Rattle.rs_machine.specs.declared.limits.TheConstants.{TABLES}
use Rattle.rs_value.specs.declared.column.TheConstants.{COLUMNS}
use Rattle.rs_stored_catalog.proofs.making.enter_tables.Goals as goal

abbrev name : TableItem → Name
name x = x.name

pub loop-table-init : goal.loop-table-init
loop-table-init c = ap (λ (items : Names (catalog.TableItem)). record c.args.catalog.now { tables = items }) (c.requires.none ∙ sym (nothing name (λ (x : TableItem). (named_table x).1) (map said_table c.args.tables.now)))

pub name_of-requires : goal.name_of-requires
name_of-requires c =
    let is = each_said said_table (meaning.IsTable) c.args.tables.now c.loop-table.table-index c.table-item.result c.loop-table-test.true c.table-item.is c.requires.meant.each in
    subst (λ text. length text ≤ NAME_BYTES) (sym c.as_str.ensures.value) is.named.short

pub table_entry-requires : goal.table_entry-requires
table_entry-requires c =
    each_said said_table meaning.IsTable c.args.tables.now c.loop-table.table-index c.table-item.result c.loop-table-test.true c.table-item.is c.requires.meant.each

abbrev value : TableItem → catalog.TableItem
value x = (named_table x).1

pub enter_table-requires-clause-new : goal.enter_table-requires-clause-new
enter_table-requires-clause-new c =
    let items = map said_table c.args.tables.now in
    let i = c.loop-table.table-index in
    let at = said_at said_table c.args.tables.now i c.table-item.result c.loop-table-test.true c.table-item.is in
    ap (λ (d : Definitions). has d.tables c.name_of.result.bytes) c.loop-table.invariant
    ∙ ap (has (so_far name value items i)) (c.name_of.ensures ∙ c.as_str.ensures.value)
    ∙ next-new name value items i (said_table c.table-item.result) c.requires.meant.in_order at.0 at.1

pub enter_table-requires-clause-free : goal.enter_table-requires-clause-free
enter_table-requires-clause-free c =
    let items = map said_table c.args.tables.now in
    let i = c.loop-table.table-index in
    let at = said_at said_table c.args.tables.now i c.table-item.result c.loop-table-test.true c.table-item.is in
    let free = next-free name value items i (said_table c.table-item.result) c.requires.meant.in_order at.0 at.1 (λ (x : TableItem). x.number) (λ (item : catalog.TableItem). item.number) (λ x. refl)
    c.requires.once in
    subst (λ (d : Definitions). IsFree (λ (item : catalog.TableItem). item.number) d.tables c.in_ok-entry.entry.number) (sym c.loop-table.invariant)
    (subst (λ (e : catalog.TableItem). IsFree (λ (item : catalog.TableItem). item.number) (so_far name value items i) e.number) (sym c.in_ok-entry.ensures) free)

pub enter_table-requires-clause-below : goal.enter_table-requires-clause-below
enter_table-requires-clause-below c =
    let below = each_said said_table (λ (t : TableItem). t.number < file.TABLES) c.args.tables.now c.loop-table.table-index c.table-item.result c.loop-table-test.true c.table-item.is c.requires.below in
    let number : (said_table c.table-item.result).number < TABLES = omega (arith, below) in
    subst (λ (e : catalog.TableItem). e.number < TABLES) (sym c.in_ok-entry.ensures) number

pub enter_table-requires-clause-columns : goal.enter_table-requires-clause-columns
enter_table-requires-clause-columns c =
    let is = each_said said_table meaning.IsTable c.args.tables.now c.loop-table.table-index c.table-item.result c.loop-table-test.true c.table-item.is c.requires.meant.each in
    subst (λ (e : catalog.TableItem). length e.columns ≤ COLUMNS) (sym c.in_ok-entry.ensures) is.columns.few

pub loop-table-preserved : goal.loop-table-preserved
loop-table-preserved c =
    let at = said_at said_table c.args.tables.now c.loop-table.table-index c.table-item.result c.loop-table-test.true c.table-item.is in
    c.in_ok-enter_table.ensures.ok
    ∙ ap (λ (d : Definitions). with_table d c.name_of.result.bytes c.in_ok-entry.entry) c.loop-table.invariant
    ∙ ap (λ (items : Names (catalog.TableItem)). record c.args.catalog.now { tables = items })
    (step name (λ (x : TableItem). (named_table x).1) (map said_table c.args.tables.now) c.loop-table.table-index (said_table c.table-item.result) c.requires.meant.in_order at.0 at.1 c.name_of.result.bytes c.in_ok-entry.entry
    (c.name_of.ensures ∙ c.as_str.ensures.value) c.in_ok-entry.ensures)

pub returns : goal.returns
returns c =
    c.loop-table.invariant
    ∙ ap (λ (items : Names (catalog.TableItem)). record c.args.catalog.now { tables = items })
    (whole name (λ (x : TableItem). (named_table x).1) (map said_table c.args.tables.now) c.loop-table.table-index (omega (arith, c.loop-table-test.false, length-map c.args.tables.now said_table)))
