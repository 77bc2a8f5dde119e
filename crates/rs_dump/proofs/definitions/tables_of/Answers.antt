-- One after another.
use Rattle.std.proofs.Common.{◌++◌, ◌∙◌, List, ap, append-nil, map, sym}
use Rattle.rs_catalog.specs.Names.{entries_by_bytes}
use Rattle.rs_dump.specs.Sections.{named_table, table_seen}
use Rattle.rs_dump.specs.declared.held.NamedTable.{NamedTable}
use Rattle.rs_dump.proofs.Listed.{listed_more}
use Rattle.rs_dump.proofs.definitions.tables_of.Goals as goal

pub loop-name-init : goal.loop-name-init
loop-name-init c =
    ap (λ (items : List NamedTable). map table_seen items ++ map named_table (entries_by_bytes (λ x. x) c.into_iter-name-iterator.result)) c.new-tables.ensures.items
    ∙ ap (map named_table) (ap (entries_by_bytes (λ x. x)) c.into_iter-name-iterator.ensures.into_iter_gives ∙ c.tables-name-items.ensures)

pub loop-name-preserved : goal.loop-name-preserved
loop-name-preserved c =
    let one : NamedTable = record { name = c.in-Some.name.now; number = c.number.result; kind = c.kind.result } in
    ap (λ (items : List NamedTable). map table_seen items ++ map named_table (entries_by_bytes (λ x. x) c.next.new.self)) c.in_ok-push.ensures.items
    ∙ listed_more table_seen named_table c.loop-name.tables.items one c.loop-name.name-iterator c.next.new.self c.in-Some.name.now c.in-Some.table.now c.in-Some.ensures.steps
    (λ i. (c.in-Some.name.now.bytes, (c.number.ensures i, c.kind.ensures i)))
    ∙ c.loop-name.invariant

pub returns : goal.returns
returns c =
    sym (append-nil (map table_seen c.loop-name.tables.items))
    ∙ ap (λ rest. map table_seen c.loop-name.tables.items ++ map named_table (entries_by_bytes (λ x. x) rest)) (sym c.in-None.ensures.steps.0)
    ∙ c.loop-name.invariant
