use Rattle.std.proofs.Common.{◌<◌, ◌≤◌, length, map, refl, sym, ap, subst, ◌∙◌, arith}
use Rattle.std.proofs.lemmas.List.{length-map}
use Rattle.rs_catalog.specs.Definitions as catalog
use Rattle.rs_catalog.specs.Definitions.{Definitions, IsColumnOf, IsFree}
use Rattle.rs_catalog_meaning.specs.Meaning as meaning
use Rattle.rs_catalog_meaning.specs.Meaning.{ends_of}
use Rattle.rs_catalog_meaning.specs.Stating.{table_with}
use Rattle.rs_catalog_pages.specs.Items.{IndexItem}
use Rattle.rs_catalog_pages.specs.Said.{said_index, said_table}
use Rattle.rs_facts.specs.Fact.{Name, Names}
use Rattle.rs_file_meaning.specs.States.{named_index}
use Rattle.rs_grammar.specs.declared.kind.TheConstants.{NAME_BYTES}
use Rattle.rs_stored_catalog.proofs.Entering.{each_said, next-free, nothing, said_at, so_far, step, whole}
use Rattle.rs_catalog.specs.Changes.{with_index}
use Rattle.rs_catalog_pages.specs.declared.directory_items.TheConstants as file
use Rattle.rs_machine.specs.declared.limits.TheConstants.{INDEXES}
use Rattle.rs_stored_catalog.proofs.making.enter_indexes.Goals as goal

abbrev name : IndexItem → Name
name x = x.name

pub loop-index-init : goal.loop-index-init
loop-index-init c = ap (λ (items : Names (catalog.IndexItem)). record c.args.catalog.now { indexes = items }) (c.requires.none ∙ sym (nothing name (λ (x : IndexItem). (named_index (map said_table c.args.tables.now) x).1) (map said_index c.args.indexes.now)))

pub name_of-requires : goal.name_of-requires
name_of-requires c =
    let is = each_said said_index (meaning.IsIndex (map said_table c.args.tables.now)) c.args.indexes.now c.loop-index.index-index c.index-item.result c.loop-index-test.true c.index-item.is c.requires.meant.each in
    subst (λ text. length text ≤ NAME_BYTES) (sym c.as_str.ensures.value) is.named.short

pub enter_index-requires-clause-of : goal.enter_index-requires-clause-of
enter_index-requires-clause-of c =
    let of = each_said said_index (λ (x : IndexItem). IsColumnOf c.args.catalog.now.tables (table_with (map said_table c.args.tables.now) x.table x.column) x.table x.column)
    c.args.indexes.now c.loop-index.index-index c.index-item.result c.loop-index-test.true c.index-item.is c.requires.of in
    let entry = c.index_entry-entry.result in
    subst (λ (d : Definitions). IsColumnOf d.tables entry.table entry.table_number entry.column) (sym c.loop-index.invariant)
    (subst (λ (e : catalog.IndexItem). IsColumnOf c.args.catalog.now.tables e.table e.table_number e.column) (sym c.index_entry-entry.ensures) of)

pub enter_index-requires-clause-free : goal.enter_index-requires-clause-free
enter_index-requires-clause-free c =
    let items = map said_index c.args.indexes.now in
    let value = λ (x : IndexItem). (named_index (map said_table c.args.tables.now) x).1 in
    let i = c.loop-index.index-index in
    let at = said_at said_index c.args.indexes.now i c.index-item.result c.loop-index-test.true c.index-item.is in
    let free = next-free name value items i (said_index c.index-item.result) c.requires.meant.in_order at.0 at.1 (λ (x : IndexItem). x.number) (λ (item : catalog.IndexItem). item.number) (λ x. refl)
    c.requires.once in
    subst (λ (d : Definitions). IsFree (λ (item : catalog.IndexItem). item.number) d.indexes c.index_entry-entry.result.number) (sym c.loop-index.invariant)
    (subst (λ (e : catalog.IndexItem). IsFree (λ (item : catalog.IndexItem). item.number) (so_far name value items i) e.number) (sym c.index_entry-entry.ensures) free)

pub enter_index-requires-clause-below : goal.enter_index-requires-clause-below
enter_index-requires-clause-below c =
    let below = each_said said_index (λ (x : IndexItem). x.number < file.INDEXES) c.args.indexes.now c.loop-index.index-index c.index-item.result c.loop-index-test.true c.index-item.is c.requires.below in
    let number : (said_index c.index-item.result).number < INDEXES = omega (arith, below) in
    subst (λ (e : catalog.IndexItem). e.number < INDEXES) (sym c.index_entry-entry.ensures) number

pub loop-index-preserved : goal.loop-index-preserved
loop-index-preserved c =
    let at = said_at said_index c.args.indexes.now c.loop-index.index-index c.index-item.result c.loop-index-test.true c.index-item.is in
    c.in_ok-enter_index.ensures.ok
    ∙ ap (λ (d : Definitions). with_index d c.name_of.result.bytes c.index_entry-entry.result) c.loop-index.invariant
    ∙ ap (λ (items : Names (catalog.IndexItem)). record c.args.catalog.now { indexes = items })
    (step name (λ (x : IndexItem). (named_index (map said_table c.args.tables.now) x).1) (map said_index c.args.indexes.now) c.loop-index.index-index (said_index c.index-item.result) c.requires.meant.in_order at.0 at.1 c.name_of.result.bytes c.index_entry-entry.result
    (c.name_of.ensures ∙ c.as_str.ensures.value) c.index_entry-entry.ensures)

pub returns : goal.returns
returns c =
    c.loop-index.invariant
    ∙ ap (λ (items : Names (catalog.IndexItem)). record c.args.catalog.now { indexes = items })
    (whole name (λ (x : IndexItem). (named_index (map said_table c.args.tables.now) x).1) (map said_index c.args.indexes.now) c.loop-index.index-index (omega (arith, c.loop-index-test.false, length-map c.args.indexes.now said_index)))
